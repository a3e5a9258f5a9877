-- `sheet_read::word_bytes` meets its contract. Assumes nothing.
use mathlib.Core.Path.{sym, ◌∙◌}
use Rattle.std.proofs.Common.{rules}
use native.Mathlib.Omega.{arith}
use Rattle.sheet_names.specs.Names.{layout_for}
use Rattle.sheet_read.specs.Parts.{most-last, bytes-last, bytes-other}
use Rattle.sheet_read.proofs.word_bytes.Goals as goal

pub overflow_cast-result : goal.overflow_cast-result
overflow_cast-result c = let a = c.args in
    omega (arith, most-last (layout_for a.long) a.i (c.if-i-last_line.true ∙ c.last_line.ensures), c.requires)

pub returns-then-i-last_line : goal.returns-then-i-last_line
returns-then-i-last_line c = let a = c.args in bytes-last (layout_for a.long) a.i a.v (c.if-i-last_line.true ∙ c.last_line.ensures)

pub returns-else-i-last_line : goal.returns-else-i-last_line
returns-else-i-last_line c = let a = c.args in bytes-other (layout_for a.long) a.i a.v (λ e. c.if-i-last_line.false (e ∙ sym c.last_line.ensures)) (search rules)
