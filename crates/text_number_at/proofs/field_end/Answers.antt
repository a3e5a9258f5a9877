-- `field_end` meets its contract
use mathlib.Core.Path.{◌≡◌, sym, ◌∙◌}
use native.Mathlib.Omega.{arith}
use lib.ListN.{length}
use Rattle.laws.specs.Tests.{by-order}
use Rattle.text_number_at.specs.Along.{along-on, along-here, along-past}
use Rattle.text_number_at.proofs.field_end.Goals as goal

pub returns-then-ends_field-clause-value : goal.returns-then-ends_field-clause-value
returns-then-ends_field-clause-value c = let l = c.loop-e in
    along-here _ l.e (omega arith) (sym c.ends_field.ensures ∙ c.if-ends_field.true) ∙ l.invariant

pub loop-e-preserved : goal.loop-e-preserved
loop-e-preserved c = let l = c.loop-e in
    along-on _ l.e (omega arith) (sym c.ends_field.ensures ∙ c.if-ends_field.false) ∙ l.invariant

pub returns-clause-value : goal.returns-clause-value
returns-clause-value c = let l = c.loop-e in
    let a = c.args in
    by-order a.from (length a.bytes.now)
    (λ h. let m : c.max.result ≡ l.e = omega arith in m ∙ along-past _ l.e (omega arith) ∙ l.invariant)
    (λ h. let m : c.max.result ≡ a.from = omega arith in m ∙ along-past _ a.from h)
