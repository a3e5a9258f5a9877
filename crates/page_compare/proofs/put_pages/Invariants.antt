-- `page_compare::put_pages` meets its contract. The loop keeps: the lines of the first i words stand in the buffer. Assumes nothing.
use Rattle.std.proofs.Common.{◌≡◌, ◌≤◌, length}
use Rattle.page_compare.specs.Words.{room}
use Rattle.page_compare.specs.Report.{Telling}
use Rattle.page_compare.proofs.put_pages.Given as goal

abbrev pub invariant-loop-i : goal.invariant-loop-i
invariant-loop-i l = record {
  told : Telling l.initial.w.out.now l.a l.b l.w.at l.n l.i l.w.out.now;
  room : room ≤ length l.initial.w.out.now;
  same : l.w.out.ghost_name ≡ l.initial.w.out.ghost_name;
}
