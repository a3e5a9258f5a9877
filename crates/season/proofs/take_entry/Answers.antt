-- `season::take_entry` meets its contract. Assumes nothing.
use Rattle.season.specs.Taking.{take-past, take-counts}
use Rattle.season.proofs.take_entry.Goals as goal

pub returns-then-s-eq0 : goal.returns-then-s-eq0
returns-then-s-eq0 c = rw (← c.c.view_is) (take-past _ _ c.if-s-eq0.true)

pub returns : goal.returns
returns c = rw (← c.c.view_is, c.pack.view_is) (take-counts _ _ c.if-s-eq0.false _ c.tell_entry-kind.ensures _ c.count_line-figures.ensures)
