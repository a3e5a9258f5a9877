-- `sheet_read::put_said` meets its contract. Assumes nothing.
use Rattle.sheet_read.specs.Unjudged.{sized-other, sized-copied}
use Rattle.sheet_read.proofs.put_said.Goals as goal

pub returns-then-page-part : goal.returns-then-page-part
returns-then-page-part c = let a = c.args in
    let both = sized-other a.part.now a.page.now c.if-page-part.true in record { value = rw c.refused.ensures both.0; page_after = both.1 }

pub returns : goal.returns
returns c = let a = c.args in
    let both = sized-copied a.part.now a.page.now c.if-page-part.false in record { value = both.0; page_after = rw c.copy_from_slice.ensures.after both.1 }
