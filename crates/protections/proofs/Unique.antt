-- Two answers that a contract of `protections` allows are equal. Assumes nothing.
use mathlib.Core.Path.{sym, ◌∙◌}
use Rattle.laws.specs.Unique.{Unique}
use Rattle.protections.proofs.back_of.Kinds as back-of-kinds
use Rattle.protections.proofs.back_of.Reads as back-of
use Rattle.protections.proofs.row_of.Kinds as row-of-kinds
use Rattle.protections.proofs.row_of.Reads as row_of

row-of-one : Unique 0 row-of-kinds.ps row-of-kinds.r row_of.Post
row-of-one κs a x y s t p q = p ∙ sym q

back-of-one : Unique 0 back-of-kinds.ps back-of-kinds.r back-of.Post
back-of-one κs a x y s t p q = p ∙ sym q
