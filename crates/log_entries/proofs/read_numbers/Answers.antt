-- `log_entries::read_numbers` meets its contract
use mathlib.Core.Path.{refl, sym, ap, ◌∙◌}
use Prim.Native.Nat.{◌+◌}
use lib.ListN.{length, length-set}
use Rattle.text_fields.specs.Fields.{field_at}
use Rattle.text_fields.specs.Splitting.{field-within}
use Rattle.text_number_at.specs.NumberAt.{number-at-value, number-at-none}
use Rattle.log_entries.specs.Left.{left, left-none, left-next}
use Rattle.log_entries.specs.InTurn.{cells_of, behind}
use Rattle.log_entries.proofs.InTurn.{behind-over, behind-none, behind-next}
use native.Mathlib.Omega.{arith}
use Rattle.log_entries.proofs.read_numbers.Goals as goal

pub loop-at-init : goal.loop-at-init
unfolding behind cells_of
loop-at-init c = (omega arith, omega arith, refl, (λ h. refl), refl)

pub returns-then-count-ge13 : goal.returns-then-count-ge13
returns-then-count-ge13 c = let l = c.loop-at in
    let a = c.args in
    sym (ap (behind a.below l.count l.numbers) (left-next a.line.now l.at _ refl (omega arith)) ∙ behind-over _ _ _ l.count l.numbers c.if-count-ge13.true)
    ∙ l.invariant.4

pub returns-in_default : goal.returns-in_default
returns-in_default c = let l = c.loop-at in
    let a = c.args in
    sym (ap (behind a.below l.count l.numbers) (left-next a.line.now l.at _ refl (omega arith))
    ∙ behind-none _ _ _ l.count l.numbers (omega arith) (number-at-none a.line.now l.at (sym c.number_at.ensures ∙ c.in_default.is)))
    ∙ l.invariant.4

pub overflow_add-at : goal.overflow_add-at
overflow_add-at c = let l = c.loop-at in
    let a = c.args in
    let q = number-at-value a.line.now l.at c.in-Some.field-0.number c.in-Some.field-0.end (sym c.in-Some.ensures) in
    omega (arith, q.1, field-within a.line.now l.at (omega arith))

pub loop-at-smaller : goal.loop-at-smaller
loop-at-smaller c = let l = c.loop-at in
    let a = c.args in
    let q = number-at-value a.line.now l.at c.in-Some.field-0.number c.in-Some.field-0.end (sym c.in-Some.ensures) in
    omega (arith, q.1, field-within a.line.now l.at (omega arith))

pub loop-at-preserved : goal.loop-at-preserved
loop-at-preserved c = let l = c.loop-at in
    let a = c.args in
    let q = number-at-value a.line.now l.at c.in-Some.field-0.number c.in-Some.field-0.end (sym c.in-Some.ensures) in
    let f = field_at a.line.now l.at in
    let n = behind-next a.below f (left a.line.now (l.at + length f + 1)) l.count c.in-Some.field-0.number l.numbers (omega arith) l.invariant.2 l.invariant.3 q.0 in
    (omega arith, omega (arith, q.1, field-within a.line.now l.at (omega arith)), rw length-set l.invariant.2, n.1, rw q.1 (sym (ap (behind a.below l.count l.numbers) (left-next a.line.now l.at _ refl (omega arith)) ∙ n.0) ∙ l.invariant.4))

pub returns-in-Some-sampled : goal.returns-in-Some-sampled
returns-in-Some-sampled c = let l = c.loop-at in
    let a = c.args in
    c.in-Some-sampled.ensures ∙ sym (ap (behind a.below l.count l.numbers) (left-none a.line.now l.at (omega arith))) ∙ l.invariant.4

pub returns-in-None : goal.returns-in-None
returns-in-None c = let l = c.loop-at in
    let a = c.args in
    c.in-None.ensures ∙ sym (ap (behind a.below l.count l.numbers) (left-none a.line.now l.at (omega arith))) ∙ l.invariant.4
