-- `with_sign` meets its contract: each way out is a case of the definition.
use Rattle.std.specs.Prelude.{Some, None}
use mathlib.Core.Path.{◌≡◌, refl, ap, sym, ◌∙◌}
use mathlib.Core.Logic.{⊎_elim}
use native.Mathlib.Omega.{arith}
use mir.Facts.{to_z-of_z, to_z_pos}
use mir.Syntax.{w16}
use borrow.Author.Tests.{lt-ltb, le-ltb}
use Prim.Native.Nat.{ℕ, zero, suc}
use Rattle.text_numbers.specs.Numbers.{below_of}
use Rattle.text_numbers.proofs.Minus.{below-some}
use Rattle.text_numbers.specs.Signs.{with_sign, up_to}
use Rattle.text_numbers.proofs.with_sign.Goals as goal

zero-none : (v : ℕ) → v ≡ 0 → None ≡ below_of (up_to 32768 v)
zero-none zero z = refl
zero-none (suc v) z = absurd (omega arith)

pub returns-then-v-eq0 : goal.returns-then-v-eq0
unfolding with_sign
returns-then-v-eq0 c = ⊎_elim
    (λ z. rw c.if-below.true (zero-none c.args.v z))
    (λ o. rw (c.if-below.true, lt-ltb 32768 c.args.v o.1))
    c.then-v-eq0.either

pub returns-then-below : goal.returns-then-below
unfolding with_sign
returns-then-below c = ap Some (to_z-of_z {w = w16} (record { sfits = c.negative.type_inv }) ∙ c.negative.ensures)
    ∙ sym (below-some c.args.v (omega arith))
    ∙ sym (rw (c.if-below.true, le-ltb 32768 c.args.v (omega arith)))

pub returns-then-v-gt32767 : goal.returns-then-v-gt32767
unfolding with_sign
returns-then-v-gt32767 c = rw (c.if-below.false, lt-ltb _ _ c.if-v-gt32767.true)

pub returns : goal.returns
unfolding with_sign
returns c = ap Some (to_z_pos w16 {n = c.args.v} (omega arith))
    ∙ sym (rw (c.if-below.false, le-ltb 32767 c.args.v (omega arith)))
