-- The verdict by the highest cell, as the code finds it, is the table's.
-- Assumes nothing.
use Rattle.std.specs.Prelude.{◌≡◌, ℕ}
use Rattle.std.proofs.Math.Path.{ap}
use Rattle.std.proofs.Common.{◌∙◌}
use Rattle.refusals.specs.Answers.{answer_of}
use Rattle.refusals.specs.Refusals.{given}
use Rattle.refusals.specs.Verdicts.{Verdict}
use Rattle.sample.specs.Cells.{extremes_of}
use Rattle.sample.specs.declared.Extremes.{Extremes}
use Rattle.sample.specs.declared.Sample.{Sample}
use Rattle.pack_refusals.specs.Samples.{sample_refusals, sample_verdict}
use Rattle.pack_refusals.specs.SampleLaws.{verdict_by, sample-answer, verdict-is}

module _ (e : Extremes) (n : ℕ) (s : Sample) where
  -- The verdict by a sample's own highest and lowest cell is the table's, and so are its number and word.
  pub by-answer : (v : Verdict) → v ≡ verdict_by e n s
      → (v ≡ verdict_by e n s) × (e ≡ extremes_of s.cells s.count → (v ≡ sample_verdict n s) × (answer_of v ≡ given (sample_refusals n s)))
  by-answer v ev = (ev, λ own. sample-answer n s v (ev ∙ ap (λ (x : Extremes). verdict_by x n s) own ∙ verdict-is n s))
