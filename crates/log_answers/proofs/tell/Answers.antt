-- `log_answers::tell` meets its contract. Assumes nothing.
use Rattle.log_answers.specs.Tell.{tell-read}
use Rattle.log_answers.proofs.tell.Goals as goal

pub returns : goal.returns
returns c = tell-read _ _ _ _ c.read_entry.ensures c.tell_entry.ensures
