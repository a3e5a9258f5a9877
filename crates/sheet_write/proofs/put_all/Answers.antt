-- `sheet_write::put_all` meets its contract. Assumes nothing.
use Rattle.std.proofs.Common.{rules, arith}
use Rattle.text_writing.specs.Writers.{puts-left}
use Rattle.sheet_write.specs.Lines.{all-put}
use Rattle.sheet_write.proofs.put_all.Goals as goal

pub returns : goal.returns
returns c = let a = c.args in
    let b = c.new.ensures in
    let both = all-put a.text.now a.out.now (omega arith) _ _ (puts-left b.bytes b.place (search rules) c.put_bytes.ensures.put) in
    record { value = both.0; out_after = both.1 }
