-- `log_entries::read_sample` meets its contract: the fields are read behind the minus that may stand there. Assumes nothing.
use mathlib.Core.Path.{sym, ◌∙◌}
use Rattle.log_entries.proofs.InTurn.{sample-start}
use Rattle.log_entries.proofs.read_sample.Goals as goal

pub returns : goal.returns
returns c = let a = c.args in
    rw c.past_minus-start.ensures.value at c.read_numbers.ensures ∙ sym (sample-start a.line.now a.from)
