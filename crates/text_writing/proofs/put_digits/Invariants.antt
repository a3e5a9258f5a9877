-- `put_digits` meets its contract. The loop's invariant: with the text of the rest written too, the buffer is what it has to become.
use Prim.Native.Nat.{◌+◌}
use mathlib.Core.Path.{◌≡◌}
use lib.ListN.{length}
use Rattle.text_writing.specs.Placing.{written}
use Rattle.text_fields.specs.Decimal.{decimal}
use Rattle.text_writing.proofs.put_digits.Given as goal

abbrev pub invariant-loop-i : goal.invariant-loop-i
invariant-loop-i l = (length l.out ≡ length l.initial.out) × (l.i + length (decimal l.rest) ≡ l.k + 1)
    × (written l.out l.at (decimal l.rest) ≡ written l.initial.out l.at (decimal l.v))
