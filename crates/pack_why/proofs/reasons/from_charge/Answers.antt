-- `pack_why::reasons::from_charge` meets its contract. Assumes nothing.
use mathlib.Core.Path.{sym, ◌∙◌}
use mir.Syntax.{w16}
use mir.Facts.{to_z-of_z}
use Rattle.pack_why.specs.Steps.{charge-none, charge-raised, charge-on}
use Rattle.pack_why.proofs.reasons.from_charge.Goals as goal

pub returns-then-first-lt-PROTECTIONS : goal.returns-then-first-lt-PROTECTIONS
returns-then-first-lt-PROTECTIONS c = charge-raised _ _ (sym (rw (
  to_z-of_z {w = w16} (record { sfits = c.struct_told-1.given.1.1.1.1.1.0.1 }),
  to_z-of_z {w = w16} (record { sfits = c.struct_told-2-1.given.1.1.0.1 }),
) at c.is_charging.ensures) ∙ c.if-is_charging.true) _ c.lowest_raised-first.ensures c.if-first-lt-PROTECTIONS.true

pub returns-then-is_charging : goal.returns-then-is_charging
returns-then-is_charging c = charge-on _ _ (sym (rw (
  to_z-of_z {w = w16} (record { sfits = c.struct_told-1.given.1.1.1.1.1.0.1 }),
  to_z-of_z {w = w16} (record { sfits = c.struct_told-2-1.given.1.1.0.1 }),
) at c.is_charging.ensures) ∙ c.if-is_charging.true) _ c.lowest_raised-first.ensures c.if-first-lt-PROTECTIONS.false _ c.from_floor.ensures

pub returns : goal.returns
returns c = charge-none _ _ (sym (rw (
  to_z-of_z {w = w16} (record { sfits = c.struct_told-1.given.1.1.1.1.1.0.1 }),
  to_z-of_z {w = w16} (record { sfits = c.struct_told-2-1.given.1.1.0.1 }),
) at c.is_charging.ensures) ∙ c.if-is_charging.false)
