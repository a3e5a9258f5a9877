-- `sheet_read::line_value` meets its contract. Assumes nothing.
use mathlib.Core.Path.{sym}
use native.Mathlib.Omega.{arith}
use Rattle.text_numbers.specs.Canonical.{number-text}
use Rattle.sheet_names.specs.Begins.{begins-long}
use Rattle.sheet_names.specs.Names.{layout_for}
use Rattle.sheet_read.specs.Parts.{most-few, rest-part, value-none, value-from}
use Rattle.sheet_read.proofs.line_value.Goals as goal

pub returns-then-not-begins : goal.returns-then-not-begins
returns-then-not-begins c = let a = c.args in value-none (layout_for a.long) a.i a.line.now (sym c.if-not-begins.ensures)

pub slice_bounds-field-count : goal.slice_bounds-field-count
slice_bounds-field-count c = rw c.prefix_length.ensures.value (begins-long _ _ (sym c.if-not-begins.ensures))

pub slice_bounds-field-start : goal.slice_bounds-field-start
slice_bounds-field-start c = rw c.prefix_length.ensures.value (begins-long _ _ (sym c.if-not-begins.ensures))

pub returns-in_err-v : goal.returns-in_err-v
returns-in_err-v c = let a = c.args in
    rw c.from_residual.ensures
    (value-from (layout_for a.long) a.i a.line.now (sym c.if-not-begins.ensures) _ (rest-part a.line.now _ _ c.prefix_length.ensures.value) _ c.most_at.ensures _ c.in_err-v.ensures)

pub overflow_cast-result : goal.overflow_cast-result
overflow_cast-result c = let a = c.args in
    omega (arith, most-few (layout_for a.long) a.i, c.most_at.ensures, (number-text _ _ _ (sym c.in_ok-v.ensures)).1)

pub returns : goal.returns
returns c = let a = c.args in
    value-from (layout_for a.long) a.i a.line.now (sym c.if-not-begins.ensures) _ (rest-part a.line.now _ _ c.prefix_length.ensures.value) _ c.most_at.ensures _ c.in_ok-v.ensures
