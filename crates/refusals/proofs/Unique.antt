-- Two answers that the contract of `refusals::refused` allows are equal. Assumes nothing.
use mathlib.Core.Path.{sym, ◌∙◌}
use Rattle.laws.specs.Unique.{Unique}
use Rattle.refusals.proofs.refused.Kinds as refused-kinds
use Rattle.refusals.proofs.refused.Reads as refused

refused-one : Unique 0 refused-kinds.ps refused-kinds.r refused.Post
refused-one κs a x y s t p q = p ∙ sym q
