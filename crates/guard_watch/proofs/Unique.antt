-- Two results that one contract allows are equal, for every public function. The contract is the one that Rattle reads out of the source (`Reads.Post`).
-- Assumes nothing.
use mathlib.Core.Path.{sym, ◌∙◌}
use Rattle.laws.specs.Unique.{Unique}
use Rattle.guard_watch.proofs.watch_of.Reads as watch-of
use Rattle.guard_watch.proofs.watch_of.Kinds as watch-of-kinds
use Rattle.guard_watch.proofs.step.Reads as step
use Rattle.guard_watch.proofs.step.Kinds as step-kinds

watch-of-one : Unique 0 watch-of-kinds.ps watch-of-kinds.r watch-of.Post
watch-of-one κs a x y s t p q = p ∙ sym q

step-one : Unique 0 step-kinds.ps step-kinds.r step.Post
step-one κs a x y s t p q = p ∙ sym q
