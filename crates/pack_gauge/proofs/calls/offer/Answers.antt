-- `pack_gauge::calls::offer` meets its contract. Assumes nothing.
use mir.Syntax.{w16}
use mir.Facts.{to_z-of_z}
use Rattle.pack_gauge.specs.Ends.{offer-accepted, offer-refused}
use Rattle.pack_gauge.proofs.calls.offer.Goals as goal

pub invariant_of-result : goal.invariant_of-result
invariant_of-result c =
    (offer-accepted _ c.g.invariant _ _ _ _ c.offer-a.ensures.value c.offer-a.ensures.verdict_value c.in-Ok.is
    (to_z-of_z {w = w16} (record { sfits = c.struct_told-1.given.1.1.0.1 })) c.counted-amount.ensures).1.1

pub returns-in-Ok-clause-value : goal.returns-in-Ok-clause-value
returns-in-Ok-clause-value c =
    rw (← c.g.view_is)
    (offer-accepted _ c.g.invariant _ _ _ _ c.offer-a.ensures.value c.offer-a.ensures.verdict_value c.in-Ok.is
    (to_z-of_z {w = w16} (record { sfits = c.struct_told-1.given.1.1.0.1 })) c.counted-amount.ensures).0

pub returns-in-Err-clause-value : goal.returns-in-Err-clause-value
returns-in-Err-clause-value c =
    rw (← c.g.view_is) (offer-refused _ c.g.invariant _ _ _ _ c.offer-a.ensures.value c.offer-a.ensures.verdict_value c.in-Err.is).0
