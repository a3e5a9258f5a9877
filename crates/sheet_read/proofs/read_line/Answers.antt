-- `sheet_read::read_line` meets its contract. Assumes nothing.
use Rattle.sheet_names.specs.Names.{layout_for}
use Rattle.sheet_read.specs.Parts.{line-none, line-is, line-not, line-part}
use Rattle.sheet_read.proofs.read_line.Goals as goal

pub returns-then-text-e : goal.returns-then-text-e
returns-then-text-e c = let a = c.args in
    line-none (layout_for a.long) a.i a.text.now a.at (rw c.find-e.ensures.value at c.if-text-e.true)

pub returns-in_err-number : goal.returns-in_err-number
returns-in_err-number c = let a = c.args in
    let f = c.find-e.ensures.value in
    rw c.from_residual.ensures (line-not (layout_for a.long) a.i a.text.now a.at (rw f at c.if-text-e.false) (rw (line-part (layout_for a.long) a.i a.text.now a.at _ f) at c.in_err-number.ensures))

pub returns : goal.returns
returns c = let a = c.args in
    let f = c.find-e.ensures.value in
    rw f (line-is (layout_for a.long) a.i a.text.now a.at (rw f at c.if-text-e.false) _ (rw (line-part (layout_for a.long) a.i a.text.now a.at _ f) at c.in_ok-number.ensures))
