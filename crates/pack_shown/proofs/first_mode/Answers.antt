-- `pack_shown::first_mode` meets its contract. Assumes nothing.
use mathlib.Core.Path.{◌≡◌, refl, sym, ap, ◌∙◌}
use native.Mathlib.Omega.{arith}
use Rattle.std.specs.Prelude.{ℕ, Option, Some, None}
use Rattle.std.specs.Option.{unwrap_or}
use Rattle.laws.specs.Bits.{has_bit}
use Rattle.protections.specs.declared.Row.{Row}
use Rattle.pack_shown.specs.Shown.{mode_number, mode_order, first_mode, mode-none, mode-found, mode-next}
use Rattle.pack_shown.proofs.first_mode.Goals as goal

number-is : (m : Option ℕ) → unwrap_or m 0 ≡ mode_number m
number-is None = refl
number-is (Some k) = refl

pub returns-then-raised-eq0 : goal.returns-then-raised-eq0
returns-then-raised-eq0 c = rw c.if-raised-eq0.true (sym (mode-none _ _))

pub returns-then-has_bit : goal.returns-then-has_bit
unfolding mode_order
returns-then-has_bit c =
    c.unwrap_or.ensures
    ∙ number-is c.row_of.result.mode
    ∙ ap (λ (r : Row). mode_number r.mode) c.row_of.ensures
    ∙ sym
    (c.loop-p.invariant
    ∙ mode-found (has_bit c.args.raised) mode_order c.args.other c.loop-p.p-index (omega arith) (sym c.has_bit.ensures ∙ c.if-has_bit.true))

pub loop-p-preserved : goal.loop-p-preserved
unfolding mode_order
loop-p-preserved c =
    c.loop-p.invariant
    ∙ mode-next (has_bit c.args.raised) mode_order c.args.other c.loop-p.p-index (omega arith) (sym c.has_bit.ensures ∙ c.if-has_bit.false)

pub returns : goal.returns
unfolding mode_order first_mode
returns c = let e : c.loop-p.p-index ≡ 7 = omega arith in sym (c.loop-p.invariant ∙ rw e)
