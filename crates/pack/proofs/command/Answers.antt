-- `pack::command` meets its contract. Assumes nothing.
use Rattle.pack.specs.Answers.{with_command, commanded}
use Rattle.pack.specs.Calls.{command-accepted}
use Rattle.pack.proofs.command.Goals as goal

pub invariant_of-result : goal.invariant_of-result
unfolding with_command
invariant_of-result c = (command-accepted _ c.k.invariant _ _ c.command_verdict-verdict.ensures c.in-Ok.is).1.1

pub returns-in-Ok-clause-value : goal.returns-in-Ok-clause-value
unfolding with_command
returns-in-Ok-clause-value c = rw (← c.k.view_is) (command-accepted _ c.k.invariant _ _ c.command_verdict-verdict.ensures c.in-Ok.is).0

pub returns-in-Err-clause-value : goal.returns-in-Err-clause-value
unfolding commanded
returns-in-Err-clause-value c = rw (← c.command_verdict-verdict.ensures.0, c.in-Err.is)
