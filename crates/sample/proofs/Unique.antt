-- Two results that one contract allows are equal, for every public function. The contract is the one that Rattle reads out of the source (`Reads.Post`).
-- Assumes nothing.
use mathlib.Core.Path.{sym, ◌∙◌}
use Rattle.laws.specs.Unique.{Unique}
use Rattle.sample.proofs.no_sample.Reads as no-sample
use Rattle.sample.proofs.no_sample.Kinds as no-sample-kinds
use Rattle.sample.proofs.extremes_of.Reads as extremes-of
use Rattle.sample.proofs.extremes_of.Kinds as extremes-of-kinds
use Rattle.sample.proofs.measured.Reads as measured
use Rattle.sample.proofs.measured.Kinds as measured-kinds

no-sample-one : Unique 0 no-sample-kinds.ps no-sample-kinds.r no-sample.Post
no-sample-one κs a x y s t p q = p ∙ sym q

extremes-of-one : Unique 0 extremes-of-kinds.ps extremes-of-kinds.r extremes-of.Post
extremes-of-one κs a x y s t p q = p ∙ sym q

measured-one : Unique 0 measured-kinds.ps measured-kinds.r measured.Post
measured-one κs a x y s t p q = p ∙ sym q
