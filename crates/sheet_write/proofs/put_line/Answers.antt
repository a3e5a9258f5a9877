-- `sheet_write::put_line` meets its contract. Assumes nothing.
use Rattle.std.proofs.Common.{◌∙◌, arith}
use Rattle.sheet_write.specs.Lines.{line-few, line-put}
use Rattle.sheet_write.proofs.put_line.Goals as goal

pub returns : goal.returns
returns c = let a = c.args in
    let h = c.requires in
    let p0 = c.put_prefix.ensures.put in
    let p1 = c.put_decimal.ensures.put in
    let p2 = c.put_byte.ensures.put in
    record {
      put = record {
        same = p2.same ∙ p1.same ∙ p0.same;
        put = line-put a.long a.i a.v h.0 (omega arith) h.1 p0.put (rw c.from.ensures at p1.put) p2.put;
      };
      v_len_bound = line-few a.long a.i a.v h.0 (omega arith);
    }
