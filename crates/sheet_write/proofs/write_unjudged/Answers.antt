-- `sheet_write::write_unjudged` meets its contract. Assumes nothing.
use Rattle.sheet_write.specs.Lines.{sheet-written}
use Rattle.sheet_write.proofs.write_unjudged.Goals as goal

pub returns : goal.returns
returns c = let both = sheet-written _ _ _ _ _ c.put_lines-n.ensures.out_after c.put_all.ensures.value c.put_all.ensures.out_after in record { value = both.0; out_after = both.1 }
