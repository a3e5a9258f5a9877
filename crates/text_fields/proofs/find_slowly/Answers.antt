-- `find_slowly` meets its contract
use mathlib.Core.Path.{◌≡◌, ◌∙◌}
use native.Mathlib.Omega.{arith}
use lib.ListN.{length}
use Rattle.laws.specs.Tests.{by-order}
use Rattle.text_fields.specs.Finding.{find-on, find-here, find-past}
use Rattle.text_fields.proofs.find_slowly.Goals as goal

pub returns-then-bytes-e-clause-value : goal.returns-then-bytes-e-clause-value
returns-then-bytes-e-clause-value c = let l = c.loop-e in find-here _ _ l.e (omega arith) c.if-bytes-e.true ∙ l.invariant

pub loop-e-preserved : goal.loop-e-preserved
loop-e-preserved c = let l = c.loop-e in find-on _ _ l.e (omega arith) c.if-bytes-e.false ∙ l.invariant

pub returns-clause-value : goal.returns-clause-value
returns-clause-value c = let l = c.loop-e in
    let a = c.args in
    by-order a.from (length a.bytes.now)
    (λ h. let m : c.max.result ≡ l.e = omega arith in m ∙ find-past _ _ l.e (omega arith) ∙ l.invariant)
    (λ h. let m : c.max.result ≡ a.from = omega arith in m ∙ find-past _ _ a.from h)
