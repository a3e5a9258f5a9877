-- `pack_gauge::calls::command` meets its contract. Assumes nothing.
use Rattle.pack_gauge.specs.Ends.{command-end}
use Rattle.pack_gauge.proofs.calls.command.Goals as goal

pub invariant_of-result : goal.invariant_of-result
invariant_of-result c = (command-end _ c.g.invariant _ _ c.command-a.ensures.value c.command-a.ensures.verdict_value).1.1

pub returns-clause-value : goal.returns-clause-value
returns-clause-value c = rw (← c.g.view_is) (command-end _ c.g.invariant _ _ c.command-a.ensures.value c.command-a.ensures.verdict_value).0
