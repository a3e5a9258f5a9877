-- The loop's invariant: the first `i` entries are kept or 0, the others as they were. Assumes nothing.
use mathlib.Core.Path.{◌≡◌}
use Rattle.sample.specs.Cells.{no_volts}
use Rattle.laws.specs.Each.{each_to}
use Rattle.pack_refusals.specs.Samples.{kept_cell}
use Rattle.pack_refusals.proofs.trim.Given as goal

abbrev pub invariant-loop-i : goal.invariant-loop-i
invariant-loop-i l =
    let s = l.fn.s in
    l.s ≡ record { count = s.count; cells = each_to no_volts (kept_cell s.count) l.i s.cells; current = s.current; t1 = s.t1; t2 = s.t2 }
