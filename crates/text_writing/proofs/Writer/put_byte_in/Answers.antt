-- `Writer::put_byte_in` meets its contract.
use Rattle.std.proofs.Common.{refl, arith}
use Rattle.text_writing.specs.Putting.{put-single}
use Rattle.text_writing.proofs.Writer.put_byte_in.Goals as goal

pub returns-clause-put : goal.returns-clause-put
returns-clause-put c = record { same = refl; put = put-single _ _ _ (omega arith) }
