-- `next_line` meets its contract: each way out is a case of the definition.
use native.Mathlib.Omega.{arith}
use Rattle.log_lines.specs.Walking.{next-found, next-not-found}
use Rattle.log_lines.proofs.next_line.Goals as goal

pub returns-then-end-bytes : goal.returns-then-end-bytes
returns-then-end-bytes c = next-found _ _ _ c.find-end.ensures.value c.if-end-bytes.true

pub returns : goal.returns
returns c = let a = c.args in next-not-found a.bytes.now a.from _ c.find-end.ensures.value (omega arith)
