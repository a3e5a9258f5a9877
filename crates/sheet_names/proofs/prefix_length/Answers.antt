-- `sheet_names::prefix_length` meets its contract. Assumes nothing.
use Rattle.sheet_names.specs.Prefixes.{prefix-few}
use Rattle.sheet_names.proofs.prefix_length.Goals as goal

pub returns-clause-upper_bound : goal.returns-clause-upper_bound
returns-clause-upper_bound c = rw c.prefix.ensures (prefix-few c.args.long c.args.i)
