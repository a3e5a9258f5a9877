-- No more is held than the buffer has.
use Rattle.std.proofs.Common.{length, ◌-◌, ◌≡◌, ◌≤◌}
use Rattle.files.proofs.Input.read_all.Given as goal

abbrev pub invariant-loop-held : goal.invariant-loop-held
invariant-loop-held l = (l.held ≤ length l.buf) × (length l.buf ≡ length l.initial.buf)

abbrev pub decreases-loop-held : goal.decreases-loop-held
decreases-loop-held l = length l.initial.buf - l.held
