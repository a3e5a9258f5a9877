-- `digits` meets its contract
use mathlib.Core.Path.{sym, ◌∙◌}
use native.Mathlib.Omega.{arith}
use Rattle.text_numbers.proofs.Reading.{off, large, turn, over}
use Rattle.text_numbers.proofs.digits.Goals as goal

pub returns-then-not-is_ascii_digit : goal.returns-then-not-is_ascii_digit
returns-then-not-is_ascii_digit c = let l = c.loop-b in
    sym (off _ _ l.v l.b-index (omega arith) c.if-not-is_ascii_digit.ensures.cases) ∙ l.invariant.1

pub returns-then-from-v : goal.returns-then-from-v
returns-then-from-v c = let l = c.loop-b in
    let d = c.if-not-is_ascii_digit.ensures.cases in
    sym (large _ _ l.v l.b-index (omega arith) d.0 d.1 (omega arith)) ∙ l.invariant.1

pub loop-b-preserved : goal.loop-b-preserved
loop-b-preserved c = let l = c.loop-b in
    let d = c.if-not-is_ascii_digit.ensures.cases in
    (omega arith, rw c.from.ensures (turn _ _ l.v l.b-index (omega arith) d.0 d.1 (omega arith)) ∙ l.invariant.1)

pub returns : goal.returns
returns c = let l = c.loop-b in sym (over _ _ l.v l.b-index (omega arith)) ∙ l.invariant.1
