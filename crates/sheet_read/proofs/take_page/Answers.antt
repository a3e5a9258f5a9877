-- `sheet_read::take_page` meets its contract. Assumes nothing.
use mathlib.Core.Path.{refl, sym, ◌∙◌}
use Rattle.std.proofs.lemmas.Result.{err_from_is_err_and}
use Rattle.sheet_read.specs.Parts.{taken-other, taken-refused, taken-copied}
use Rattle.sheet_read.specs.Unjudged.{sized-copied}
use Rattle.sheet_read.proofs.take_page.Goals as goal

pub returns-then-page-part : goal.returns-then-page-part
returns-then-page-part c = let a = c.args in
    let both = taken-other a.part.now a.page.now c.if-page-part.true in record { value = rw c.refused.ensures both.0; page_after = both.1 }

pub returns-in_err-judge : goal.returns-in_err-judge
returns-in_err-judge c = let a = c.args in
    let p = err_from_is_err_and c.from_residual.result c.from_residual.ensures.1 in
    let both = taken-refused a.part.now a.page.now c.if-page-part.false _ c.in_err-judge.ensures.0 _ refl in rw (p.1, p.2) (record { value = both.0; page_after = both.1 })

pub returns : goal.returns
returns c = let a = c.args in
    let both = taken-copied a.part.now a.page.now c.if-page-part.false _ c.in_ok-judge.ensures.0 refl in
    let put = sized-copied a.part.now a.page.now c.if-page-part.false in
    record { value = c.put_said.ensures.value ∙ sym put.0 ∙ both.0; page_after = c.put_said.ensures.page_after ∙ sym put.1 ∙ both.1 }
