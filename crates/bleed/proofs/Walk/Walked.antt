-- The code's walk, turn by turn, with a cell at which it ends or without one.
-- Assumes nothing.
use Rattle.std.proofs.Common.{◌≡◌, refl, sym, ◌∙◌, Bool, true, false, Option, Some, None, ℕ, ◌+◌, ◌-◌, ◌<◌, eqb, arith, eqb-true, eq-eqb}
use Rattle.std.specs.Option.{option_eq}
use Rattle.units.specs.declared.CellNo.{CellNo}
use Rattle.units.specs.contracts.CellNoPartialEq.TheImpl.{eq-value}
use Rattle.laws.specs.Tests.{clash}
use Rattle.bleed.specs.Resting.Steps.{next_cell}
use Rattle.bleed.specs.Walk.Steps.{take_one}
use Rattle.bleed.specs.Walk.Reached.{walked}
use Rattle.bleed.proofs.Walk.StepLaws.{take-on, take-none}
use Rattle.bleed.proofs.Walk.Reached.{to-reached, to-on, to-none}

-- Whether the walk ends at a cell.
abbrev pub ends_at : Option CellNo → CellNo → Bool
ends_at until cell = option_eq eq-value.it until (Some cell)

same-cell : (k d : CellNo) → ends_at (Some k) d ≡ eqb k.0 d.0
same-cell k d = refl

module _ (n K want rest : ℕ) where
  pub walked-met : (until : Option CellNo) (j : ℕ) (d : CellNo) (taken : ℕ) → ends_at until d ≡ true → walked until j n K want rest d.0 taken ≡ taken
  unfolding walked
  walked-met None j d taken e = clash e refl
  walked-met (Some k) j d taken e = to-reached n K want rest k.0 j d.0 taken (eqb-true k.0 d.0 (sym (same-cell k d) ∙ e))

  pub walked-on : (until : Option CellNo) (i : ℕ) (d next : CellNo) (taken more : ℕ) → i < n → ends_at until d ≡ false
      → next ≡ record { 0 = next_cell n d.0 } → more ≡ take_one K want rest taken d.0
      → walked until (n - (i + 1)) n K want rest next.0 more ≡ walked until (n - i) n K want rest d.0 taken
  unfolding walked
  walked-on None i d next taken more h e en em =
      let less : n - (i + 1) ≡ n - i - 1 = omega arith in
      rw (less, en, em) (sym (take-on (n - i) n K want rest d.0 taken (omega arith)))
  walked-on (Some k) i d next taken more h e en em =
      let less : n - (i + 1) ≡ n - i - 1 = omega arith in
      rw (less, en, em) (sym (to-on n K want rest k.0 (n - i) d.0 taken (omega arith) (λ q. clash (same-cell k d ∙ eq-eqb k.0 d.0 q) e)))

  pub walked-none : (until : Option CellNo) (d taken : ℕ) → walked until 0 n K want rest d taken ≡ taken
  unfolding walked
  walked-none None d taken = take-none n K want rest d taken
  walked-none (Some k) d taken = to-none n K want rest k.0 d taken
