-- `pack_numbers::command_any` meets its contract. Assumes nothing.
use Rattle.pack.specs.Answers.{with_command}
use Rattle.pack_numbers.specs.Calls.{command-yes, command-no}
use Rattle.pack_numbers.proofs.command_any.Goals as goal

pub returns-in-Ok : goal.returns-in-Ok
unfolding with_command
returns-in-Ok c = command-yes _ _ _ c.command_verdict-verdict.ensures.0 c.in-Ok.is

pub returns-in-Err : goal.returns-in-Err
returns-in-Err c = command-no _ _ _ _ _ c.command_verdict-verdict.ensures.0 c.in-Err.is
