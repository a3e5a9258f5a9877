-- A season begins with the pack that was just loaded.
use Rattle.season.specs.Taking.{begin_with}
use Rattle.report.proofs.count_logs.Goals as goal

pub invariant_of-counting : goal.invariant_of-counting
unfolding begin_with
invariant_of-counting c = rw c.begin.ensures c.fresh.invariant
