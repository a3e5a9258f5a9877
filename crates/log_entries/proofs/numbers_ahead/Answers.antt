-- `log_entries::numbers_ahead` meets its contract
use mathlib.Core.Path.{refl, sym, ap, ◌∙◌}
use lib.ListN.{length-set}
use Rattle.text_number_at.specs.Along.{along-value, tabbed-within}
use Rattle.log_entries.specs.InTurn.{cells_of, behind}
use Rattle.log_entries.specs.Ahead.{found_as}
use Rattle.log_entries.proofs.AheadLaws.{ahead-over, ahead-none, ahead-last, ahead-next, ahead-four}
use native.Mathlib.Omega.{arith}
use Rattle.log_entries.proofs.numbers_ahead.Goals as goal

pub loop-count-init : goal.loop-count-init
unfolding behind cells_of
loop-count-init c = (omega arith, refl, (λ h. refl), refl)

pub returns-then-count-ge13 : goal.returns-then-count-ge13
unfolding behind
returns-then-count-ge13 c = let l = c.loop-count in
    let a = c.args in
    ahead-over a.bytes.now l.at a.below l.count l.numbers c.if-count-ge13.true ∙ l.invariant.3

pub overflow_add-at : goal.overflow_add-at
overflow_add-at c = let l = c.loop-count in
    let a = c.args in
    omega (arith, tabbed-within a.bytes.now l.at _ (sym c.in-Some.ensures))

pub loop-count-smaller-in-Some : goal.loop-count-smaller-in-Some
loop-count-smaller-in-Some c = let l = c.loop-count in
    let a = c.args in
    omega (arith, tabbed-within a.bytes.now l.at _ (sym c.in-Some.ensures))

pub loop-count-preserved-in-Some : goal.loop-count-preserved-in-Some
loop-count-preserved-in-Some c = let l = c.loop-count in
    let a = c.args in
    let q =
    ahead-four a.bytes.now l.at a.below l.count l.numbers (omega arith) l.invariant.1 l.invariant.2
    (λ i. (c.type_inv.bytes i).fits) _ (sym c.in-Some.ensures) in
    (omega arith, rw length-set l.invariant.1, q.1, q.0 ∙ l.invariant.3)

pub returns-in_err-number : goal.returns-in_err-number
unfolding behind
returns-in_err-number c = let l = c.loop-count in
    let a = c.args in
    c.from_residual.ensures
    ∙ ahead-none a.bytes.now l.at a.below l.count l.numbers (omega arith) (sym c.in_err-number.ensures)
    ∙ l.invariant.3

pub bounds-bytes-end : goal.bounds-bytes-end
bounds-bytes-end c = let n = c.in_ok-number in
    let l = c.loop-count in
    let a = c.args in
    (along-value a.bytes.now l.at n.field-0.number n.field-0.end (sym n.ensures)).2

pub returns-in_err-sample : goal.returns-in_err-sample
unfolding behind
returns-in_err-sample c = let n = c.in_ok-number in
    let l = c.loop-count in
    let a = c.args in
    c.from_residual-in_err-sample.ensures
    ∙ ap (found_as n.field-0.end) c.in_err-sample.ensures
    ∙ ahead-last a.bytes.now l.at a.below l.count l.numbers n.field-0.number n.field-0.end (omega arith) l.invariant.1 l.invariant.2 (sym n.ensures) c.if-bytes-end-eq10.true
    ∙ l.invariant.3

pub returns-then-bytes-end-eq10 : goal.returns-then-bytes-end-eq10
unfolding behind
returns-then-bytes-end-eq10 c = let n = c.in_ok-number in
    let l = c.loop-count in
    let a = c.args in
    ap (found_as n.field-0.end) c.in_ok-sample.ensures
    ∙ ahead-last a.bytes.now l.at a.below l.count l.numbers n.field-0.number n.field-0.end (omega arith) l.invariant.1 l.invariant.2 (sym n.ensures) c.if-bytes-end-eq10.true
    ∙ l.invariant.3

pub overflow_add-at-in-loop-count : goal.overflow_add-at-in-loop-count
overflow_add-at-in-loop-count c = let n = c.in_ok-number in
    let l = c.loop-count in
    let a = c.args in
    let q = along-value a.bytes.now l.at n.field-0.number n.field-0.end (sym n.ensures) in
    omega (arith, q.2)

pub loop-count-smaller : goal.loop-count-smaller
loop-count-smaller c = let n = c.in_ok-number in
    let l = c.loop-count in
    let a = c.args in
    let q = along-value a.bytes.now l.at n.field-0.number n.field-0.end (sym n.ensures) in
    omega (arith, q.1, q.2)

pub loop-count-preserved : goal.loop-count-preserved
loop-count-preserved c = let n = c.in_ok-number in
    let l = c.loop-count in
    let a = c.args in
    let q =
    ahead-next a.bytes.now l.at a.below l.count l.numbers n.field-0.number n.field-0.end (omega arith) l.invariant.1 l.invariant.2
    (sym n.ensures) c.if-bytes-end-eq10.false in
    (omega arith, rw length-set l.invariant.1, q.1, q.0 ∙ l.invariant.3)
