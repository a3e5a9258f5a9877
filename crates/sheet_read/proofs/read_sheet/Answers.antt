-- `sheet_read::read_sheet` meets its contract. Assumes nothing.
use mathlib.Core.Path.{ap}
use Rattle.std.specs.Prelude.{Err}
use Rattle.std.proofs.lemmas.Result.{err_from_is_err_and}
use Rattle.sheet_read.specs.Parts.{sheet-bad, sheet-taken}
use Rattle.sheet_read.proofs.read_sheet.Goals as goal

pub returns-in_err-size : goal.returns-in_err-size
returns-in_err-size c = let p = err_from_is_err_and c.from_residual.result c.from_residual.ensures.1 in
    let e = c.in_err-size.ensures.bad in
    let both = sheet-bad c.args.text.now c.args.page.now _ e.0 (ap Err e.1) in rw (p.1, p.2) (record { value = both.0; page_after = both.1 })

pub returns : goal.returns
returns c = let e = c.in_ok-size.ensures.page in
    let both = sheet-taken _ _ e.0 _ _ _ e.1 c.take_page.ensures.value c.take_page.ensures.page_after in record { value = both.0; page_after = both.1 }
