-- `Writer::put_bytes` meets its contract.
use Rattle.std.proofs.Common.{refl, sym, ◌∙◌, leb-false}
use Rattle.text_writing.specs.Putting.{put-no}
use Rattle.text_writing.proofs.Writer.put_bytes.Goals as goal

pub returns-else-has_room-clause-put : goal.returns-else-has_room-clause-put
returns-else-has_room-clause-put c = record { same = refl; put = put-no _ _ _ (leb-false _ _ (sym c.has_room.ensures ∙ c.if-has_room.false)) }
