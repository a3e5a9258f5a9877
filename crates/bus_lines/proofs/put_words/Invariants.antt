-- `bus_lines::put_words` meets its contract. The loop keeps: the lines of the first c commands stand in the buffer. Assumes nothing.
use Rattle.std.proofs.Common.{◌≡◌, ◌≤◌, length}
use Rattle.bus_lines.specs.Lines.{room, word_line, Putting}
use Rattle.bus_lines.proofs.put_words.Given as goal

abbrev pub invariant-loop-c : goal.invariant-loop-c
invariant-loop-c l = record {
  lines : Putting l.initial.w.out.now (word_line l.k) l.w.at l.c l.w.out.now;
  room : room ≤ length l.initial.w.out.now;
  same : l.w.out.ghost_name ≡ l.initial.w.out.ghost_name;
}
