-- `put_digits` meets its contract
use Prim.Native.Nat.{ℕ, ◌+◌, ◌-◌, ◌/◌, ◌<◌, ◌≤◌}
use mathlib.Core.Path.{◌≡◌, ap, ◌∙◌}
use native.Mathlib.Omega.{arith}
use lib.ListN.{length, length-set}
use Rattle.laws.specs.Tests.{by-order}
use Rattle.text_writing.specs.Putting.{digit-stored, first-stored}
use Rattle.text_fields.specs.Decimal.{decimal}
use Rattle.text_fields.specs.Spelling.{decimal-digit, decimal-some, length-tens}
use Rattle.text_writing.proofs.put_digits.Goals as goal

-- two digits say ten at least, and one says less
ten-least : (v : ℕ) → 2 ≤ length (decimal v) → 10 ≤ v
ten-least v h = by-order v 10 (λ l. let n : length (decimal v) ≡ 1 = ap length (decimal-digit v l) in absurd (omega arith)) (λ l. l)

one-digit : (v : ℕ) → length (decimal v) ≡ 1 → v < 10
one-digit v h = by-order v 10 (λ l. l) (λ l. let n = length-tens v l in let m = decimal-some (v / 10) in absurd (omega arith))

pub loop-i-preserved : goal.loop-i-preserved
loop-i-preserved c = let l = c.loop-i in
    let t = ten-least l.rest (omega arith) in
    let n = length-tens l.rest t in (
      rw length-set l.invariant.0,
      omega arith,
      digit-stored _ c.args.at (c.args.at + c.args.k - l.i) l.rest t (omega arith) (omega arith) ∙ l.invariant.2,
    )

pub overflow_cast-out-2 : goal.overflow_cast-out-2
overflow_cast-out-2 c = let l = c.loop-i in omega (arith, one-digit l.rest (omega arith))

pub overflow_add-out-2 : goal.overflow_add-out-2
overflow_add-out-2 c = let l = c.loop-i in omega (arith, one-digit l.rest (omega arith))

pub returns : goal.returns
returns c = let l = c.loop-i in
    first-stored _ _ c.args.at l.rest (one-digit l.rest (omega arith)) (omega arith) (omega arith) ∙ l.invariant.2
