-- `sheet_write::value_at` meets its contract. Assumes nothing.
use mathlib.Core.Path.{sym, ◌∙◌}
use Rattle.sheet_names.specs.Names.{layout_for}
use Rattle.sheet_write.specs.Lines.{value-check, value-word}
use Rattle.sheet_write.proofs.value_at.Goals as goal

pub returns-then-i-last_line : goal.returns-then-i-last_line
returns-then-i-last_line c = let a = c.args in
    c.from-then-i-last_line.ensures ∙ rw c.from.ensures at c.byte_at.ensures
    ∙ value-check (layout_for a.long) a.page.now a.i (c.if-i-last_line.true ∙ c.last_line.ensures)

pub returns-else-i-last_line : goal.returns-else-i-last_line
returns-else-i-last_line c = let a = c.args in
    rw c.from-else-i-last_line.ensures at c.word_at.ensures
    ∙ value-word (layout_for a.long) a.page.now a.i (λ e. c.if-i-last_line.false (e ∙ sym c.last_line.ensures))
