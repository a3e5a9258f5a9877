-- Two results that one contract allows are equal, for every public function. The contract is the one that Rattle reads out of the source (`Reads.Post`).
-- Assumes nothing.
use mathlib.Core.Path.{sym, ◌∙◌}
use Rattle.laws.specs.Unique.{Unique}
use Rattle.guard_raised.proofs.raised_word.Reads as raised-word
use Rattle.guard_raised.proofs.raised_word.Kinds as raised-word-kinds
use Rattle.guard_raised.proofs.blocks.Reads as blocks
use Rattle.guard_raised.proofs.blocks.Kinds as blocks-kinds
use Rattle.guard_raised.proofs.lowest_raised.Reads as lowest-raised
use Rattle.guard_raised.proofs.lowest_raised.Kinds as lowest-raised-kinds
use Rattle.guard_raised.proofs.lowest_blocking.Reads as lowest-blocking
use Rattle.guard_raised.proofs.lowest_blocking.Kinds as lowest-blocking-kinds

raised-word-one : Unique 0 raised-word-kinds.ps raised-word-kinds.r raised-word.Post
raised-word-one κs a x y s t p q = p ∙ sym q

blocks-one : Unique 0 blocks-kinds.ps blocks-kinds.r blocks.Post
blocks-one κs a x y s t p q = p ∙ sym q

lowest-raised-one : Unique 0 lowest-raised-kinds.ps lowest-raised-kinds.r lowest-raised.Post
lowest-raised-one κs a x y s t p q = p ∙ sym q

lowest-blocking-one : Unique 0 lowest-blocking-kinds.ps lowest-blocking-kinds.r lowest-blocking.Post
lowest-blocking-one κs a x y s t p q = p ∙ sym q
