-- The text ends in the buffer.
use Rattle.std.proofs.Common.{sym, ◌∙◌, length-take, arith}
use Rattle.sheet_seal.specs.Sealed.{seal-fits}
use Rattle.seal.proofs.run.Goals as goal

pub slice_bounds-out-end : goal.slice_bounds-out-end
slice_bounds-out-end c =
    let fits = seal-fits _ _ _ (sym c.in-Ok.is ∙ c.seal_sheet.ensures.value) in
    omega (arith, fits)

pub slice_bounds-write_last-end : goal.slice_bounds-write_last-end
slice_bounds-write_last-end c =
    let fits = seal-fits _ _ _ (sym c.in-Ok.is ∙ c.seal_sheet.ensures.value) in
    rw length-take (omega (arith, fits))
