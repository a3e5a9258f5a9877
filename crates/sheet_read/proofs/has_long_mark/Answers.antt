-- `sheet_read::has_long_mark` meets its contract. Assumes nothing.
use Rattle.std.proofs.Common.{rules}
use Rattle.sheet_read.specs.Parts.{mark-by}
use Rattle.sheet_read.proofs.has_long_mark.Goals as goal

pub returns : goal.returns
returns c = mark-by _ _ _ c.read_line.ensures (search rules)
