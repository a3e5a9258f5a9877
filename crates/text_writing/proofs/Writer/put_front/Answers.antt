-- `Writer::put_front` meets its contract.
use Rattle.std.proofs.Common.{◌∙◌, [], ◌∷◌, arith, length-append}
use Rattle.text_fields.specs.Decimal.{decimal}
use Rattle.text_writing.specs.Rows.{put-room, put-field, field-long, field-word, word-room, front-few, front-put}
use Rattle.text_writing.proofs.Writer.put_front.Goals as goal

pub put_long_in-requires : goal.put_long_in-requires
put_long_in-requires c = let a = c.args in
    omega (arith, field-long a.first 9 (omega arith), length-append (decimal a.first) (9 ∷ []))

pub put_byte_in-requires : goal.put_byte_in-requires
put_byte_in-requires c = let a = c.args in
    put-room 1 c.put_long_in.ensures.put (omega (arith, field-long a.first 9 (omega arith), length-append (decimal a.first) (9 ∷ [])))

pub put_field-requires : goal.put_field-requires
put_field-requires c = let a = c.args in
    let k = field-long a.first 9 (omega arith) in
    rw c.from.ensures (word-room a.second _ (omega arith) (put-field a.first 9 (omega arith) c.put_long_in.ensures.put c.put_byte_in.ensures.put.put) (omega arith))

pub put_field-requires-2 : goal.put_field-requires-2
put_field-requires-2 c = let a = c.args in
    let k = field-long a.first 9 (omega arith) in
    let h = put-room 12 (put-field a.first 9 (omega arith) c.put_long_in.ensures.put c.put_byte_in.ensures.put.put) (omega arith) in
    rw c.from-2.ensures (word-room a.third _ (omega arith) (rw c.from.ensures at c.put_field.ensures.put) (omega (arith, field-word a.second 9 (omega arith))))

pub returns : goal.returns
returns c = let a = c.args in
    let h = c.requires in
    let k = field-long a.first 9 (omega arith) in
    let p = put-field a.first 9 (omega arith) c.put_long_in.ensures.put c.put_byte_in.ensures.put.put in
    record {
      put = record {
        same = c.put_field-2.ensures.same ∙ c.put_field.ensures.same ∙ c.put_byte_in.ensures.put.same ∙ c.put_long_in.ensures.same;
        put = front-put a.first a.second a.third (omega arith) (omega arith) (omega arith) h p (rw c.from.ensures at c.put_field.ensures.put) (rw c.from-2.ensures at c.put_field-2.ensures.put);
      };
      third_len_bound = front-few a.first a.second a.third (omega arith) (omega arith) (omega arith);
    }
