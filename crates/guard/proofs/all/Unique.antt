-- Two results that one contract allows are equal, for every public function. The contract is the one that Rattle reads out of the source (`Reads.Post`).
-- Assumes nothing.
use mathlib.Core.Path.{sym, ◌∙◌}
use Rattle.laws.specs.Unique.{Unique}
use Rattle.guard.proofs.all.step_all.Reads as step-all
use Rattle.guard.proofs.all.step_all.Kinds as step-all-kinds
use Rattle.guard.proofs.all.fresh.Reads as fresh
use Rattle.guard.proofs.all.fresh.Kinds as fresh-kinds

step-all-one : Unique 0 step-all-kinds.ps step-all-kinds.r step-all.Post
step-all-one κs a x y s t p q = p ∙ sym q

fresh-one : Unique 0 fresh-kinds.ps fresh-kinds.r fresh.Post
fresh-one κs a x y s t p q = p ∙ sym q
