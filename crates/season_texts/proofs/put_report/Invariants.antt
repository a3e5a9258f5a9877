-- `season_texts::put_report` meets its contract. The loop keeps: the first j lines stand in the buffer. Assumes nothing.
use Rattle.std.proofs.Common.{ℕ, ◌≡◌, ◌≤◌, length}
use Rattle.season_texts.specs.Texts.{row_value, row_line, room}
use Rattle.season_texts.specs.Lines.{Putting}
use Rattle.season_texts.proofs.put_report.Given as goal

abbrev pub invariant-loop-j : goal.invariant-loop-j
invariant-loop-j l = record {
  putting : Putting (λ (i : ℕ). row_line i (row_value l.f i)) 41 l.initial.w.out.now l.w.at l.j l.w.out.now;
  room : room ≤ length l.initial.w.out.now;
  same : l.w.out.ghost_name ≡ l.initial.w.out.ghost_name;
}
