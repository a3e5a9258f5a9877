-- `log_texts::put_field` meets its contract. Assumes nothing.
use Rattle.std.proofs.Common.{◌∙◌}
use Rattle.text_writing.specs.Rows.{put-field}
use Rattle.log_texts.proofs.put_field.Goals as goal

pub returns : goal.returns
returns c = record {
  same = c.put_byte.ensures.put.same ∙ c.put_decimal.ensures.put.same;
  put = put-field c.args.v c.args.end c.requires (rw c.from.ensures at c.put_decimal.ensures.put.put) c.put_byte.ensures.put.put;
}
