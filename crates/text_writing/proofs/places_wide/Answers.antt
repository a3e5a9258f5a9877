-- `places_wide` meets its contract: a number of k + 1 digits is 10 ^ k at least, and below 10 ^ (k + 1). Assumes nothing.
use mathlib.Core.Path.{sym, ap}
use native.Mathlib.Numerals.{add-one}
use native.Mathlib.Omega.{arith}
use lib.ListN.{length}
use Rattle.std.proofs.Math.Nat.{pow-succ'}
use Rattle.text_fields.specs.Spelling.{decimal-digit, decimal-places}
use Rattle.text_writing.proofs.places_wide.Goals as goal

pub returns-then-v-lt10-clause-value : goal.returns-then-v-lt10-clause-value
returns-then-v-lt10-clause-value c = sym (ap length (decimal-digit _ (omega arith)))

pub returns-clause-value : goal.returns-clause-value
returns-clause-value c = let k = c.ilog10.result in
    rw add-one (decimal-places k c.args.v c.ilog10.ensures.power_le (rw (pow-succ' 10 k) c.ilog10.ensures.next_power_gt))
