-- `gauge_log::lines::put_words` meets its contract. The loop keeps: the lines of the first c commands stand in the buffer. Assumes nothing.
use Rattle.std.proofs.Common.{◌≡◌, ◌≤◌, length}
use Rattle.bus_lines.specs.Lines.{room, Putting}
use Rattle.gauge_log.specs.Lines.{gauge_line}
use Rattle.gauge_log.proofs.lines.put_words.Given as goal

abbrev pub invariant-loop-c : goal.invariant-loop-c
invariant-loop-c l = record {
  lines : Putting l.initial.w.out.now (gauge_line l.g) l.w.at l.c l.w.out.now;
  room : room ≤ length l.initial.w.out.now;
  same : l.w.out.ghost_name ≡ l.initial.w.out.ghost_name;
}
