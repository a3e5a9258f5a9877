-- `carried` meets its contract.
use native.Mathlib.Omega.{arith}
use borrow.Author.Tests.{lt-ltb, le-ltb}
use Rattle.laws.specs.Tests.{by-order}
use Rattle.log_lines.specs.Carrying.{carried}
use Rattle.log_lines.proofs.carried.Goals as goal

pub returns-then-done-clause-value : goal.returns-then-done-clause-value
unfolding carried
returns-then-done-clause-value c = let n = c.args.left in
    by-order 129 n (λ h. rw (c.if-done.true, lt-ltb 129 n h) (omega arith)) (λ h. rw (c.if-done.true, le-ltb 129 n h) (omega arith))

pub returns-else-done-clause-value : goal.returns-else-done-clause-value
unfolding carried
returns-else-done-clause-value c = rw c.if-done.false
