-- `sheet_read::most_at` meets its contract. Assumes nothing.
use mathlib.Core.Path.{sym, ◌∙◌}
use Rattle.sheet_names.specs.Names.{layout_for}
use Rattle.sheet_read.specs.Parts.{most-last, most-other}
use Rattle.sheet_read.proofs.most_at.Goals as goal

pub returns-then-i-last_line : goal.returns-then-i-last_line
returns-then-i-last_line c = let a = c.args in sym (most-last (layout_for a.long) a.i (c.if-i-last_line.true ∙ c.last_line.ensures))

pub returns-else-i-last_line : goal.returns-else-i-last_line
returns-else-i-last_line c = let a = c.args in sym (most-other (layout_for a.long) a.i (λ e. c.if-i-last_line.false (e ∙ sym c.last_line.ensures)))
