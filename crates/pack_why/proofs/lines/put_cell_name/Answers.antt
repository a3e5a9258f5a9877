-- `pack_why::lines::put_cell_name` meets its contract. Assumes nothing.
use Rattle.std.proofs.Common.{◌∙◌, arith}
use Rattle.text_fields.specs.Quoted.{quoted}
use Rattle.pack_why.specs.Lines.{name-few, three-put}
use Rattle.pack_why.proofs.lines.put_cell_name.Goals as goal

pub returns : goal.returns
returns c = let a = c.args in
    let word = c.put_bytes.ensures.put in
    let number = c.put_decimal.ensures.put in
    let tab = c.put_byte.ensures.put in record {
      put = record {
        same = tab.same ∙ number.same ∙ word.same;
        put = three-put (quoted "cell ") a.cell.0 9 (omega arith) (omega (arith, c.requires)) word.put (rw c.from.ensures at number.put) tab.put;
      };
      cell_len_bound = name-few a.cell.0 (omega arith);
    }
