-- `laws::with_bit_if` meets its contract: past the width there is no bit to set. Assumes nothing.
use Rattle.std.proofs.Common.{sym, arith}
use Rattle.laws.specs.Bits.{with_bit_if, with-past}
use Rattle.laws.proofs.with_bit_if.Goals as goal
use Rattle.laws.proofs.with_bit_if.Goals.{else-on-via-then-on+else-i-lt16, else-on-via-else-on}

pub returns-else-on : goal.returns-else-on
unfolding with_bit_if
returns-else-on c =
    elim c.else-on.branch [
      | else-on-via-then-on+else-i-lt16 w ↦ rw w.if-on.true (sym (with-past c.args.w c.args.i (omega arith)))
      | else-on-via-else-on w ↦ rw w.if-on.false
    ]
