-- Two results that one contract allows are equal, for every public function. The contract is the one that Rattle reads out of the source (`Reads.Post`).
-- Assumes nothing.
use mathlib.Core.Path.{sym, ◌∙◌}
use Rattle.laws.specs.Unique.{Unique}
use Rattle.bus_words.proofs.sent_word.Reads as sent_word
use Rattle.bus_words.proofs.sent_word.Kinds as sent-word-kinds
use Rattle.bus_words.proofs.is_bounded.Reads as is-bounded
use Rattle.bus_words.proofs.is_bounded.Kinds as is-bounded-kinds

sent-word-one : Unique 0 sent-word-kinds.ps sent-word-kinds.r sent_word.Post
sent-word-one κs a x y s t p q = p ∙ sym q

is-bounded-one : Unique 0 is-bounded-kinds.ps is-bounded-kinds.r is-bounded.Post
is-bounded-one κs a x y s t p q = p ∙ sym q
