-- `pack_numbers::offer_watched` meets its contract. Assumes nothing.
use Rattle.pack_numbers.specs.Calls.{offer-yes, offer-no}
use Rattle.pack_numbers.proofs.offer_watched.Goals as goal

pub returns-in-Ok : goal.returns-in-Ok
returns-in-Ok c = offer-yes _ _ _ _ _ _ (c.sample_verdict-verdict.ensures.value_2 c.extremes_of-e.ensures).0 c.in-Ok.is c.trim.ensures c.extremes_of-e.ensures c.accept.ensures

pub returns-in-Err : goal.returns-in-Err
returns-in-Err c = offer-no _ _ _ _ _ (c.sample_verdict-verdict.ensures.value_2 c.extremes_of-e.ensures).0 c.in-Err.is
