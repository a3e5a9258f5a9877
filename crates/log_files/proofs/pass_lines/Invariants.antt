-- What waits is in the buffer, and the buffer keeps its length.
use Rattle.std.proofs.Common.{◌≡◌, ◌≤◌, length}
use Rattle.log_files.proofs.pass_lines.Given as goal

abbrev pub invariant-loop : goal.invariant-loop
invariant-loop g l = (l.have ≤ length l.buf) × (length l.buf ≡ length l.initial.buf)
