-- What waits is in the buffer, and the buffers keep their lengths.
use Rattle.std.proofs.Common.{◌≡◌, ◌≤◌, length}
use Rattle.replay.proofs.answer_lines.Given as goal

abbrev pub invariant-loop : goal.invariant-loop
invariant-loop l = (l.have ≤ length l.buf) × (length l.buf ≡ length l.initial.buf) × (length l.out ≡ length l.initial.out)
