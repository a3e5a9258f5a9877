-- `pack_refusals::sample_verdict` meets its contract. Assumes nothing.
use mathlib.Core.Path.{sym, ◌∙◌}
use native.Mathlib.Omega.{arith}
use Rattle.pack_refusals.specs.SampleLaws.{by-none, by-count, by-cells, by-last}
use Rattle.pack_refusals.proofs.ByAnswer.{by-answer}
use Rattle.pack_refusals.proofs.sample_verdict.Goals as goal

pub returns-then-n-eq0 : goal.returns-then-n-eq0
returns-then-n-eq0 c = let both = by-answer _ _ _ _ (c.refused.ensures ∙ sym (by-none _ _ _ c.if-n-eq0.true)) in record { value = both.0; value_2 = both.1 }

pub returns-then-s-n : goal.returns-then-s-n
returns-then-s-n c = let both = by-answer _ _ _ _ (c.refused-then-s-n.ensures ∙ sym (by-count _ _ _ (omega arith) c.if-s-n.true)) in record { value = both.0; value_2 = both.1 }

pub returns-then-e-le6000 : goal.returns-then-e-le6000
returns-then-e-le6000 c = let both = by-answer _ _ _ _
    (c.temperatures_verdict.ensures
    ∙ sym (by-last _ _ _ (omega arith) c.if-s-n.false c.if-e-le6000.true)) in record { value = both.0; value_2 = both.1 }

pub returns : goal.returns
returns c = let both = by-answer _ _ _ _
    (c.refused-2.ensures ∙ sym (by-cells _ _ _ (omega arith) c.if-s-n.false c.if-e-le6000.false)) in record { value = both.0; value_2 = both.1 }
