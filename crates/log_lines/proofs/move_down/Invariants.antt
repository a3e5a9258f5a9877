-- `move_down` meets its contract. The loop's invariant: the first i bytes are those from from on, and the buffer is else as it was.
use Prim.Native.Nat.{◌≤◌, ◌+◌}
use lib.ListN.{length}
use Rattle.log_lines.specs.Carrying.{Moved}
use Rattle.log_lines.proofs.move_down.Given as goal

abbrev pub invariant-loop-i : goal.invariant-loop-i
invariant-loop-i l = (l.from + l.count ≤ length l.initial.buf) × Moved l.initial.buf l.from l.i l.buf
