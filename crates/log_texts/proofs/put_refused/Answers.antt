-- `log_texts::put_refused` meets its contract. Assumes nothing.
use Rattle.std.proofs.Common.{◌∙◌, arith}
use Rattle.text_writing.specs.Rows.{put-room}
use Rattle.log_texts.specs.Writing.{field-byte, refused-few, refused-put, refused_word}
use Rattle.log_texts.proofs.put_refused.Goals as goal

pub put_field-requires : goal.put_field-requires
put_field-requires c = let a = c.args in put-room {s = refused_word} _ c.put_bytes.ensures.put.put (omega (arith, field-byte a.number 10 (omega arith), c.requires))

pub returns : goal.returns
returns c = let a = c.args in record {
  put = record { same = c.put_field.ensures.same ∙ c.put_bytes.ensures.put.same; put = refused-put a.number (omega arith) c.requires c.put_bytes.ensures.put.put c.put_field.ensures.put };
  number_len_bound = refused-few a.number (omega arith);
}
