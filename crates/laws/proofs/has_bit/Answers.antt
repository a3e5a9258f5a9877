-- `laws::has_bit` meets its contract: a bit past the width is not set. Assumes nothing.
use Rattle.std.proofs.Common.{refl, arith, le-ltb}
use Rattle.laws.specs.Bits.{has_bit, has-past}
use Rattle.laws.proofs.has_bit.Goals as goal

pub returns-then-i-lt16 : goal.returns-then-i-lt16
unfolding has_bit
returns-then-i-lt16 c = refl

pub returns-else-i-lt16 : goal.returns-else-i-lt16
returns-else-i-lt16 c = rw (has-past c.args.w c.args.i (omega arith) (omega arith)) (le-ltb c.args.i 16 (omega arith))
