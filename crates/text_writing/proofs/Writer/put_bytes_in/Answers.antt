-- `Writer::put_bytes_in` meets its contract.
use Rattle.std.proofs.Common.{refl}
use Rattle.text_writing.specs.Putting.{put-made}
use Rattle.text_writing.proofs.Writer.put_bytes_in.Goals as goal

pub returns-clause-put : goal.returns-clause-put
returns-clause-put c = record { same = refl; put = put-made _ _ _ _ c.requires c.copy.ensures }
