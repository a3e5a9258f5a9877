-- `page_pocket::pocket_fault` meets its contract. Assumes nothing.
use borrow.Author.Tests.{eq-eqb, ne_eqb}
use Rattle.page_pocket.specs.Pocket.{fault-is}
use Rattle.page_pocket.proofs.pocket_fault.Goals as goal

pub returns-then-page-ne128 : goal.returns-then-page-ne128
returns-then-page-ne128 c = rw (fault-is, ne_eqb _ _ c.if-page-ne128.true) c.refused.ensures

pub returns : goal.returns
returns c = rw (fault-is, eq-eqb _ _ c.if-page-ne128.false) c.word_fault.ensures
