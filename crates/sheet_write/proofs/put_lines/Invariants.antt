-- `sheet_write::put_lines` meets its contract. The loop keeps: the first i lines stand in the buffer. Assumes nothing.
use Rattle.std.proofs.Common.{◌≡◌, ◌≤◌, length}
use Rattle.sheet_names.specs.Names.{layout_for}
use Rattle.sheet_write.specs.Sheet.{room}
use Rattle.sheet_write.specs.Lines.{Putting}
use Rattle.sheet_write.proofs.put_lines.Given as goal

abbrev pub invariant-loop-i : goal.invariant-loop-i
invariant-loop-i l = record {
  put : Putting l.initial.w.out.now (layout_for l.long) l.page l.w.at l.i l.w.out.now;
  room : room ≤ length l.initial.w.out.now;
  same : l.w.out.ghost_name ≡ l.initial.w.out.ghost_name;
}
