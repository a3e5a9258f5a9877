-- `pack_why::reasons::why_cell` meets its contract. Assumes nothing.
use Rattle.pack_why.specs.Steps.{kept-ten, cell-zero, cell-above, cell-early, cell-on}
use Rattle.pack_why.proofs.reasons.why_cell.Goals as goal

pub returns-then-cell-lt1 : goal.returns-then-cell-lt1
returns-then-cell-lt1 c = cell-zero _ _ c.if-cell-lt1.true

pub returns-then-n-cell : goal.returns-then-n-cell
returns-then-n-cell c = rw (← c.k.view_is) (cell-above _ _ c.if-cell-lt1.false c.if-n-cell.true)

pub from_charge-requires : goal.from_charge-requires
from_charge-requires c = record { ten = kept-ten _ c.k.invariant; first = c.if-cell-lt1.false; last = c.if-n-cell.false }

pub returns-then-p : goal.returns-then-p
returns-then-p c = rw (← c.k.view_is) (cell-on _ _ c.if-cell-lt1.false c.if-n-cell.false c.if-p.true _ c.from_charge.ensures)

pub returns : goal.returns
returns c = rw (← c.k.view_is) (cell-early _ _ c.if-cell-lt1.false c.if-n-cell.false c.if-p.false)
