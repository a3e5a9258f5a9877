-- `read_number` meets its contract: a number up to 65535 fits.
use native.Mathlib.Omega.{arith}
use mathlib.Core.Path.{sym}
use Rattle.text_numbers.specs.Canonical.{number-text}
use Rattle.text_numbers.proofs.read_number.Goals as goal

pub overflow_cast-result : goal.overflow_cast-result
overflow_cast-result c = omega (arith, number-text 65535 c.args.field.now c.in_ok-v.v (sym c.in_ok-v.ensures))
