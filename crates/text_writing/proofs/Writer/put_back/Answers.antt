-- `Writer::put_back` meets its contract.
use Rattle.std.proofs.Common.{◌∙◌, arith}
use Rattle.text_writing.specs.Rows.{field-word, word-room, back-few, back-put}
use Rattle.text_writing.proofs.Writer.put_back.Goals as goal

pub put_field-requires : goal.put_field-requires
put_field-requires c = let a = c.args in rw c.from.ensures (omega (arith, field-word a.fourth 9 (omega arith)))

pub put_field-requires-2 : goal.put_field-requires-2
put_field-requires-2 c = let a = c.args in
    rw c.from-2.ensures (word-room a.fifth _ (omega arith) (rw c.from.ensures at c.put_field.ensures.put) (omega (arith, field-word a.fourth 9 (omega arith))))

pub returns : goal.returns
returns c = let a = c.args in record {
  put = record {
    same = c.put_field-2.ensures.same ∙ c.put_field.ensures.same;
    put = back-put a.fourth a.fifth (omega arith) (omega arith) c.requires (rw c.from.ensures at c.put_field.ensures.put) (rw c.from-2.ensures at c.put_field-2.ensures.put);
  };
  fifth_len_bound = back-few a.fourth a.fifth (omega arith) (omega arith);
}
