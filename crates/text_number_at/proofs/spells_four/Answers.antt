-- `spells_four` meets its contract: it is the definition.
use Rattle.text_number_at.specs.Four.{spells_four}
use Rattle.text_number_at.proofs.spells_four.Goals as goal

pub returns : goal.returns
unfolding spells_four
returns c = rw (c.from.ensures, c.from-2.ensures)
