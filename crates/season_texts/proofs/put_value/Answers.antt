-- `season_texts::put_value` meets its contract. Assumes nothing.
use Rattle.std.proofs.Common.{◌∙◌, arith}
use Rattle.season_texts.specs.Writing.{value-put}
use Rattle.season_texts.proofs.put_value.Goals as goal

pub returns : goal.returns
returns c =
    let tab = c.put_byte.ensures.put in
    let value = c.put_decimal.ensures.put in
    let end = c.put_byte-2.ensures.put in record {
      same = end.same ∙ value.same ∙ tab.same;
      put = value-put c.args.v (omega arith) c.requires tab.put value.put end.put;
    }
