-- `log_entries::sampled` meets its contract: each way out is what the numbers say where no field is left. Assumes nothing.
use mathlib.Core.Path.{◌≡◌, refl, sym, ap, ◌∙◌}
use mathlib.Core.List.{List}
use Prim.Native.Nat.{◌-◌}
use native.Mathlib.Omega.{arith}
use lib.ListN.{length, get_or}
use borrow.Author.Rules.{rules}
use Rattle.std.specs.Prelude.{Option, ℤ}
use Rattle.laws.specs.Each.{each_to, each-next}
use Rattle.units.specs.declared.MilliVolts.{MilliVolts}
use Rattle.log_entries.proofs.Current.{current-same}
use Rattle.log_entries.specs.Entry.{offer, entry_of, if_signed}
use Rattle.log_entries.specs.InTurn.{cells_of}
use Rattle.log_entries.proofs.InTurn.{behind-few, behind-all, ten-cells}
use Rattle.log_entries.proofs.sampled.Goals as goal

pub loop-i-init : goal.loop-i-init
unfolding each_to
loop-i-init c = refl

pub loop-i-preserved : goal.loop-i-preserved
loop-i-preserved c = let l = c.loop-i in each-next _ _ l.i _ _ _ l.invariant refl

pub returns-then-count-lt3 : goal.returns-then-count-lt3
returns-then-count-lt3 c = let a = c.args in sym (behind-few a.below a.count a.numbers c.if-count-lt3.true)

pub returns-in_err-current : goal.returns-in_err-current
returns-in_err-current c = let a = c.args in
    ap entry_of c.from_residual.ensures
    ∙ sym (behind-all a.below a.count a.numbers c.if-count-lt3.false
    ∙ ap (λ (s : Option ℤ). if_signed s (λ current. offer current (get_or a.numbers 1 0) (get_or a.numbers 2 0) (a.count - 3) (cells_of a.numbers))) (sym c.in_err-current.ensures))

pub returns : goal.returns
returns c = let l = c.loop-i in
    let a = c.args in
    let z = c.in_ok-current.current in
    let ten : l.i ≡ 10 = omega arith in
    let n : length a.numbers ≡ 13 = search rules in
    let said = sym c.in_ok-current.ensures in
    rw (current-same a.below (get_or a.numbers 0 0) z said)
    (ap (λ (cells : List MilliVolts). offer z (get_or a.numbers 1 0) (get_or a.numbers 2 0) (a.count - 3) cells) (rw ten at l.invariant ∙ ten-cells a.numbers n))
    ∙ sym (behind-all a.below a.count a.numbers c.if-count-lt3.false
    ∙ ap (λ (s : Option ℤ). if_signed s (λ current. offer current (get_or a.numbers 1 0) (get_or a.numbers 2 0) (a.count - 3) (cells_of a.numbers))) said)
