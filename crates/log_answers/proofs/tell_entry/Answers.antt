-- `log_answers::tell_entry` meets its contract. Assumes nothing.
use Rattle.log_answers.specs.Tell.{entry-told}
use Rattle.log_answers.proofs.tell_entry.Goals as goal

pub returns : goal.returns
returns c = entry-told _ _ _ _ c.answered_by.ensures.value (rw c.kind.ensures at c.outcome_of.ensures)
