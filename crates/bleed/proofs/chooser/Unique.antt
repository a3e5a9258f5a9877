-- Two results that one contract allows are equal, for every public function.
-- Assumes nothing.
use mathlib.Core.Path.{sym, ◌∙◌}
use Rattle.laws.specs.Unique.{Unique}
use Rattle.bleed.proofs.chooser.choose.Reads as choose
use Rattle.bleed.proofs.chooser.choose.Kinds as choose-kinds
use Rattle.bleed.proofs.chooser.taken_before.Reads as taken-before
use Rattle.bleed.proofs.chooser.taken_before.Kinds as taken-before-kinds

choose-one : Unique 0 choose-kinds.ps choose-kinds.r choose.Post
choose-one κs a x y s t p q = p.walked ∙ sym q.walked

taken-before-one : Unique 0 taken-before-kinds.ps taken-before-kinds.r taken-before.Post
taken-before-one κs a x y s t p q = p ∙ sym q
