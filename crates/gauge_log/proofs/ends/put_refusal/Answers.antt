-- `gauge_log::ends::put_refusal` meets its contract. Assumes nothing.
use Rattle.gauge_log.specs.Ends.{start-put, page-put, accepted-put}
use Rattle.gauge_log.proofs.ends.put_refusal.Goals as goal

pub returns-then-refusal-eq22 : goal.returns-then-refusal-eq22
returns-then-refusal-eq22 c = let both = start-put _ _ _ c.in-Err.is c.if-refusal-eq22.true c.put_told.ensures.put in record { put = both.0; upper_bound = both.1 }

pub returns-in-Ok : goal.returns-in-Ok
returns-in-Ok c = let both = accepted-put _ _ c.in-Ok.is in record { put = both.0; upper_bound = both.1 }

pub returns-else-refusal-eq22 : goal.returns-else-refusal-eq22
returns-else-refusal-eq22 c = let both = page-put _ _ _ c.in-Err.is c.if-refusal-eq22.false c.put_opening.ensures.put in record { put = both.0; upper_bound = both.1 }
