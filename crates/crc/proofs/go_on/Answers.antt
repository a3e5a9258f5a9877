-- `crc::go_on` meets its contract
use Rattle.std.proofs.Common.{sym, arith}
use Rattle.crc.specs.Vectors.{of-no-more}
use Rattle.crc.specs.Next.{remainder-next}
use Rattle.crc.proofs.go_on.Goals as goal

pub loop-b-init : goal.loop-b-init
loop-b-init c = sym (of-no-more _)

pub loop-b-preserved : goal.loop-b-preserved
loop-b-preserved c = remainder-next _ _ _ _ _ (omega arith) c.loop-b.invariant c.with_byte-left.ensures
