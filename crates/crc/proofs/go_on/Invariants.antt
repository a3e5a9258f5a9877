-- `crc::go_on` meets its contract. The loop's invariant: `left` is what the bytes before `b` leave. Assumes nothing.
use Rattle.std.proofs.Common.{◌≡◌, take}
use Rattle.crc.specs.CheckByte.{remainder}
use Rattle.crc.proofs.go_on.Given as goal

abbrev pub invariant-loop-b : goal.invariant-loop-b
invariant-loop-b l = l.left ≡ remainder l.c (take l.b-index l.bytes)
