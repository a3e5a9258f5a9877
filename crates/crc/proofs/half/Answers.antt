-- `crc::half` meets its contract: the rule of the table. Assumes nothing.
use Rattle.std.proofs.Common.{arith}
use Rattle.crc.specs.Halves.{half-is}
use Rattle.crc.proofs.half.Goals as goal

pub returns : goal.returns
returns c = rw c.from-h.ensures (half-is c.args.c (omega arith))
