-- `sheet_write::write_sheet` meets its contract. Assumes nothing.
use mathlib.Core.Path.{refl}
use Rattle.std.proofs.lemmas.Result.{err_from_is_err_and}
use Rattle.sheet_write.specs.Lines.{page-refused, page-written}
use Rattle.sheet_write.proofs.write_sheet.Goals as goal

pub returns : goal.returns
returns c = let both = page-written _ _ _ c.judge.ensures.0 c.in_ok-judge.was _ _ c.write_unjudged.ensures.value c.write_unjudged.ensures.out_after in record { value = both.0; out_after = both.1 }

pub returns-in_err-judge : goal.returns-in_err-judge
returns-in_err-judge c = let p = err_from_is_err_and c.from_residual.result c.from_residual.ensures.1 in
    let both = page-refused _ _ _ c.in_err-judge.ensures.0 _ refl in rw (p.1, p.2) (record { value = both.0; out_after = both.1 })
