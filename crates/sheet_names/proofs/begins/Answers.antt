-- `sheet_names::begins` meets its contract. Assumes nothing.
use Rattle.std.proofs.Common.{rules}
use Rattle.sheet_names.specs.Begins.{begins-from}
use Rattle.sheet_names.proofs.begins.Goals as goal

pub returns : goal.returns
returns c = begins-from _ _ (search rules) c.min.ensures c.prefix-p.ensures
