-- Two results that one contract allows are equal, for every public function.
-- Assumes nothing.
use mathlib.Core.Path.{sym, ◌∙◌}
use Rattle.laws.specs.Unique.{Unique}
use Rattle.bleed_wants.proofs.is_charging.Reads as is-charging
use Rattle.bleed_wants.proofs.is_charging.Kinds as is-charging-kinds
use Rattle.bleed_wants.proofs.wanting_word.Reads as wanting-word
use Rattle.bleed_wants.proofs.wanting_word.Kinds as wanting-word-kinds

is-charging-one : Unique 0 is-charging-kinds.ps is-charging-kinds.r is-charging.Post
is-charging-one κs a x y s t p q = p ∙ sym q

wanting-word-one : Unique 0 wanting-word-kinds.ps wanting-word-kinds.r wanting-word.Post
wanting-word-one κs a x y s t p q = p ∙ sym q
