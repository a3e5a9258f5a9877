-- `sheet_names::put_prefix` meets its contract. Assumes nothing.
use Rattle.sheet_names.specs.Prefixes.{prefix-few}
use native.Mathlib.Omega.{arith}
use Rattle.sheet_names.proofs.put_prefix.Goals as goal

pub returns-clause-upper_bound : goal.returns-clause-upper_bound
returns-clause-upper_bound c = let k = prefix-few c.args.long c.args.i in omega (arith, rw c.prefix.ensures at c.put_bytes.ensures.upper_bound, k)
