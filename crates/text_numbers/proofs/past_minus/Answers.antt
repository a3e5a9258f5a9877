-- `past_minus` meets its contract.
use native.Mathlib.Omega.{arith}
use lib.ListN.{length, get_or}
use borrow.Author.Tests.{lt-ltb, le-ltb, eq-eqb, ne_eqb}
use Rattle.text_numbers.specs.Signs.{past_minus}
use Rattle.text_numbers.proofs.past_minus.Goals as goal
use Rattle.text_numbers.proofs.past_minus.Goals.{else-from-line-via-then-from-line+else-line-from-eq45, else-from-line-via-else-from-line}

pub returns-then-line-from-eq45-clause-value : goal.returns-then-line-from-eq45-clause-value
unfolding past_minus
returns-then-line-from-eq45-clause-value c = let a = c.args in
    rw (lt-ltb a.from (length a.line.now) (omega arith), eq-eqb _ _ c.if-line-from-eq45.true)

pub returns-clause-value : goal.returns-clause-value
unfolding past_minus
returns-clause-value c = let a = c.args in
    elim c.else-from-line.branch [
      | else-from-line-via-then-from-line+else-line-from-eq45 w ↦ rw (lt-ltb a.from (length a.line.now) (omega arith), ne_eqb (get_or a.line.now a.from 0) 45 w.if-line-from-eq45.false)
      | else-from-line-via-else-from-line w ↦ rw (le-ltb a.from (length a.line.now) (omega arith))
    ]
