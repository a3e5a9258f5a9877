-- `protections::row_of` meets its contract: a number past 7 is that of the last row. Assumes nothing.
use Rattle.std.proofs.Common.{sym, arith}
use Rattle.protections.specs.Table.{row-past}
use Rattle.protections.proofs.row_of.Goals as goal

pub returns-in_default : goal.returns-in_default
returns-in_default c = sym (row-past c.args.p.0 (omega arith))
