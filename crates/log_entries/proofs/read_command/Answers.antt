-- `log_entries::read_command` meets its contract. Assumes nothing.
use Rattle.log_entries.proofs.Reading.{command-read}
use mathlib.Core.Path.{sym, ap, ◌∙◌}
use native.Mathlib.Omega.{arith}
use Rattle.log_entries.specs.Entry.{read_command}
use Rattle.log_entries.specs.Left.{left-none, left-only}
use Rattle.log_entries.proofs.Reading.{command-over}
use Rattle.log_entries.proofs.read_command.Goals as goal

pub returns-then-n-at : goal.returns-then-n-at
unfolding read_command
returns-then-n-at c = sym (ap read_command (left-none _ _ c.if-n-at.true))

pub returns-then-f-n : goal.returns-then-f-n
returns-then-f-n c = sym (command-over _ _ _ c.field-f.ensures.result_value (omega arith) (omega arith))

pub returns-in_default : goal.returns-in_default
unfolding read_command
returns-in_default c = sym (ap read_command (left-only _ _ _ c.field-f.ensures.result_value (omega arith) (omega arith)) ∙ rw (sym c.read_number.ensures ∙ c.in_default.is))

pub returns : goal.returns
returns c = sym (ap read_command (left-only _ _ _ c.field-f.ensures.result_value (omega arith) (omega arith)) ∙ command-read _ _ (sym c.read_number.ensures ∙ c.in-Some.is) ∙ sym cc)
