-- `pack::offer` meets its contract. Assumes nothing.
use Rattle.pack.specs.Calls.{kept-watched, offer-refused}
use Rattle.pack.proofs.Offered.{offer-accepted}
use Rattle.pack.proofs.offer.Goals as goal

pub accept-pack-requires : goal.accept-pack-requires
accept-pack-requires c = kept-watched _ c.k.invariant

pub invariant_of-result : goal.invariant_of-result
invariant_of-result c =
    (offer-accepted _ c.k.invariant _ _ _ _ _ (c.sample_verdict-verdict.ensures.value_2 c.extremes_of-e.ensures) c.in-Ok.is
    c.trim.ensures c.extremes_of-e.ensures c.accept-pack.ensures).1.1

pub returns-in-Ok-clause-value : goal.returns-in-Ok-clause-value
returns-in-Ok-clause-value c =
    rw (← c.k.view_is)
    (offer-accepted _ c.k.invariant _ _ _ _ _ (c.sample_verdict-verdict.ensures.value_2 c.extremes_of-e.ensures) c.in-Ok.is
    c.trim.ensures c.extremes_of-e.ensures c.accept-pack.ensures).0

pub returns-in-Err-clause-value : goal.returns-in-Err-clause-value
returns-in-Err-clause-value c =
    rw (← c.k.view_is)
    (offer-refused _ c.k.invariant _ _ _ _ (c.sample_verdict-verdict.ensures.value_2 c.extremes_of-e.ensures) c.in-Err.is).0
