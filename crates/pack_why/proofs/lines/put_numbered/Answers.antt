-- `pack_why::lines::put_numbered` meets its contract. Assumes nothing.
use Rattle.std.proofs.Common.{◌∙◌, arith}
use Rattle.pack_why.specs.Lines.{numbered-few, three-put}
use Rattle.pack_why.proofs.lines.put_numbered.Goals as goal

pub returns : goal.returns
returns c = let a = c.args in
    let words = c.put_bytes.ensures.put in
    let number = c.put_decimal.ensures.put in
    let end = c.put_byte.ensures.put in record {
      put = record {
        same = end.same ∙ number.same ∙ words.same;
        put = three-put _ a.number 10 (omega arith) c.requires words.put (rw c.from.ensures at number.put) end.put;
      };
      number_in_bounds = numbered-few a.words.now a.number (omega arith);
    }
