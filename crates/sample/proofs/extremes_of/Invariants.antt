-- `sample::extremes_of` meets its contract: after i cells, e are the extremes of the first i, which are no more than are looked at. Assumes nothing.
use Rattle.std.proofs.Common.{◌≡◌, ◌≤◌}
use Rattle.sample.specs.Cells.{extremes_to}
use Rattle.sample.proofs.extremes_of.Given as goal

abbrev pub invariant-loop-i : goal.invariant-loop-i
invariant-loop-i l = record { looked : l.i ≤ l.n; ten : l.n ≤ 10; so_far : l.e ≡ extremes_to l.cells l.i }
