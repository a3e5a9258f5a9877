-- The pack of the season that begins a log is the one that was just loaded.
use Rattle.season.specs.Taking.{with_fresh}
use Rattle.report.proofs.count_log.Goals as goal

pub invariant_of-counting : goal.invariant_of-counting
unfolding with_fresh
invariant_of-counting c = rw c.next_log.ensures c.fresh.invariant
