-- `pack_why::lines::put_cell_lines` meets its contract. The loop keeps: the lines of the first i cells stand in the buffer. Assumes nothing.
use Rattle.std.proofs.Common.{◌≡◌}
use Rattle.pack_why.specs.Lines.{Putting}
use Rattle.pack_why.proofs.lines.put_cell_lines.Given as goal

abbrev pub invariant-loop-i : goal.invariant-loop-i
invariant-loop-i l = record {
  putting : Putting l.initial.w.out.now l.initial.w.at l.k l.w.at l.i l.w.out.now;
  same : l.w.out.ghost_name ≡ l.initial.w.out.ghost_name;
}
