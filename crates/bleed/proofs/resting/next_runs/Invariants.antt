-- `bleed::resting::next_runs` meets its contract. The loop's invariant: the first i counters are stepped, the others are as they were.
-- Assumes nothing.
use Rattle.std.proofs.Common.{◌≡◌}
use Rattle.bleed.specs.Resting.Steps.{next_runs_to}
use Rattle.bleed.proofs.resting.next_runs.Given as goal

abbrev pub invariant-loop-i : goal.invariant-loop-i
invariant-loop-i l = l.run-items ≡ next_runs_to l.bled l.i l.initial.run-items
