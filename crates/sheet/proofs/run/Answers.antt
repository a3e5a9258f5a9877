-- The text ends in the buffer.
use Rattle.std.proofs.Common.{sym, ◌∙◌, length-take, arith}
use Rattle.sheet_write.specs.Lines.{wrote-fits}
use Rattle.sheet.proofs.run.Goals as goal

pub slice_bounds-out-end : goal.slice_bounds-out-end
slice_bounds-out-end c =
    let fits = wrote-fits _ _ _ (sym c.in-Ok.is ∙ c.write_sheet.ensures.value) in
    omega (arith, fits)

pub slice_bounds-write_last-end : goal.slice_bounds-write_last-end
slice_bounds-write_last-end c =
    let fits = wrote-fits _ _ _ (sym c.in-Ok.is ∙ c.write_sheet.ensures.value) in
    rw length-take (omega (arith, fits))
