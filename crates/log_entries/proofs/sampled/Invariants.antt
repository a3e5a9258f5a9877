-- `log_entries::sampled` meets its contract. The loop's invariant: the first i cells are the numbers behind the two temperatures. Assumes nothing.
use mathlib.Core.Path.{◌≡◌}
use lib.ListN.{replicate}
use Rattle.sample.specs.Cells.{no_volts}
use Rattle.log_entries.specs.InTurn.{cells_to}
use Rattle.log_entries.proofs.sampled.Given as goal

abbrev pub invariant-loop-i : goal.invariant-loop-i
invariant-loop-i l = l.cells ≡ cells_to l.numbers l.i (replicate 10 no_volts)
