-- `pack_refusals::command_verdict` meets its contract. Assumes nothing.
use mathlib.Core.Path.{sym, ◌∙◌}
use native.Mathlib.Omega.{arith}
use Rattle.pack_refusals.specs.SampleLaws.{command-fits, command-over, command-answer}
use Rattle.pack_refusals.proofs.command_verdict.Goals as goal

pub returns-then-c-le3 : goal.returns-then-c-le3
returns-then-c-le3 c = command-answer _ _ (sym (command-fits _ (omega arith)))

pub returns : goal.returns
returns c = command-answer _ _ (c.refused.ensures ∙ sym (command-over _ (omega arith)))
