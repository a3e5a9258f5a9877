-- `log_texts::put_before` meets its contract. Assumes nothing.
use Rattle.text_fields.specs.Fields.{line_of}
use Rattle.log_texts.specs.Texts.{header_text}
use Rattle.log_texts.proofs.put_before.Goals as goal

pub returns-in-Ok : goal.returns-in-Ok
unfolding header_text line_of
returns-in-Ok c = rw c.in-Ok.is c.put_bytes.ensures.put
