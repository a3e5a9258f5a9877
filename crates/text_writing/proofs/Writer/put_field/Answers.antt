-- `Writer::put_field` meets its contract.
use Rattle.std.proofs.Common.{◌∙◌, [], ◌∷◌, arith, length-append}
use Rattle.text_fields.specs.Decimal.{decimal}
use Rattle.text_writing.specs.Rows.{put-room, put-field}
use Rattle.text_writing.proofs.Writer.put_field.Goals as goal

pub put_decimal_in-requires : goal.put_decimal_in-requires
put_decimal_in-requires c = let a = c.args in omega (arith, length-append (decimal a.v) (a.end ∷ []))

pub put_byte_in-requires : goal.put_byte_in-requires
put_byte_in-requires c = let a = c.args in
    put-room 1 c.put_decimal_in.ensures.put.put (omega (arith, length-append (decimal a.v) (a.end ∷ [])))

pub returns : goal.returns
returns c = record {
  same = c.put_byte_in.ensures.put.same ∙ c.put_decimal_in.ensures.put.same;
  put = put-field c.args.v c.args.end c.requires c.put_decimal_in.ensures.put.put c.put_byte_in.ensures.put.put;
}
