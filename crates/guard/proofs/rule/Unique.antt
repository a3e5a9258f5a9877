-- Two results that one contract allows are equal, for every public function. The contract is the one that Rattle reads out of the source (`Reads.Post`).
-- Assumes nothing.
use mathlib.Core.Path.{sym, ◌∙◌}
use Rattle.laws.specs.Unique.{Unique}
use Rattle.guard.proofs.rule.step_one.Reads as step-one
use Rattle.guard.proofs.rule.step_one.Kinds as step-one-kinds

step-one-one : Unique 0 step-one-kinds.ps step-one-kinds.r step-one.Post
step-one-one κs a x y s t p q = p ∙ sym q
