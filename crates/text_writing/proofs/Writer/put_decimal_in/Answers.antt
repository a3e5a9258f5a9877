-- `Writer::put_decimal_in` meets its contract.
use Rattle.std.proofs.Common.{refl, arith}
use Rattle.text_writing.specs.Putting.{put-said}
use Rattle.text_writing.proofs.Writer.put_decimal_in.Goals as goal

pub returns-clause-put : goal.returns-clause-put
returns-clause-put c = record { same = refl; put = put-said _ _ _ _ _ c.places-k.ensures.value (omega arith) (rw c.from.ensures at c.put_digits.ensures) }
