-- `sheet_seal::seal_sheet` meets its contract. Assumes nothing.
use mathlib.Core.Path.{sym, ◌∙◌}
use Rattle.sheet_seal.specs.Sealed.{length-long, length-short}
use Rattle.sheet_seal.proofs.seal_sheet.Goals as goal

pub seal_with-requires : goal.seal_with-requires
seal_with-requires c = length-long _ (sym c.has_long_mark.ensures ∙ c.if-has_long_mark.true)

pub seal_with-requires-else-has_long_mark : goal.seal_with-requires-else-has_long_mark
seal_with-requires-else-has_long_mark c = length-short _ (sym c.has_long_mark.ensures ∙ c.if-has_long_mark.false)
