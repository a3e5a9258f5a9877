-- Degrees as tenths in 32 bits: ten times a level and an offset fit, and nothing is lost on the way.
-- Assumes nothing.
use mathlib.Core.Path.{◌≡◌, ap, ◌∙◌}
use Prim.Native.Nat.{ℕ, suc, ◌+◌, ◌*◌, ◌<◌}
use native.Mathlib.Omega.{arith}
use borrow.Author.Tests.{lt-ltb}
use lib.Dec.{ltb}
use lib.IntN.{ℤ, pos, negsuc, ◌+ℤ◌, ◌*ℤ◌}
use lib.Signed.{mag}
use mir.Val.{to_z, of_z, SFits}
use mir.Syntax.{w32}
use mir.Facts.{to_z-of_z}
use Rattle.laws.specs.Tests.{by-test}
use Rattle.units.specs.Signed.{signed_of}
use Rattle.page_words.specs.Ranges.{level_of}
use Rattle.protections.specs.declared.Quantity.{Quantity}
use Rattle.protections.specs.declared.Quantity.TheVariants.{HighestCell, LowestCell, Current, Temperature1, Temperature2}

signed-small : (x : ℕ) → x < 65536 → mag (signed_of x) < 65536
unfolding signed_of
signed-small x h = by-test (ltb x 32768) (λ t. rw t h) (λ t. rw (t, lt-ltb x 65536 h) (omega arith))

pub level-small : (q : Quantity) (x : ℕ) → x < 65536 → mag (level_of q x) < 65536
unfolding level_of
level-small HighestCell x h = h
level-small LowestCell x h = h
level-small Current x h = signed-small x h
level-small Temperature1 x h = signed-small x h
level-small Temperature2 x h = signed-small x h

times-small : (z : ℤ) → mag z < 65536 → mag (pos 10 *ℤ z) < 655360
times-small (pos a) h = omega arith
times-small (negsuc a) h = let e : 10 * suc a ≡ suc (10 * a + 9) = omega arith in rw e (omega arith)

plus-small : (z : ℤ) (k : ℕ) → mag z < 655360 → k < 65536 → mag (z +ℤ pos k) < 2147483648
plus-small (pos a) k h g = omega arith
plus-small (negsuc a) k h g = by-test (ltb k (suc a)) (λ t. rw t (omega arith)) (λ t. rw t (omega arith))

module _ (z : ℤ) (small : mag z < 65536) where
  same : to_z w32 (of_z w32 z) ≡ z
  same = to_z-of_z {w = w32} (record { sfits = omega arith })

  pub times-fits : SFits w32 (pos 10 *ℤ to_z w32 (of_z w32 z))
  times-fits = rw same (let t = times-small z small in record { sfits = omega arith })

  times-is : to_z w32 (of_z w32 (pos 10 *ℤ to_z w32 (of_z w32 z))) ≡ pos 10 *ℤ z
  times-is = to_z-of_z {w = w32} times-fits ∙ ap (λ (x : ℤ). pos 10 *ℤ x) same

  module _ (k : ℕ) (g : k < 65536) where
    pub plus-fits : SFits w32 (to_z w32 (of_z w32 (pos 10 *ℤ to_z w32 (of_z w32 z))) +ℤ pos k)
    plus-fits = rw times-is (record { sfits = plus-small (pos 10 *ℤ z) k (times-small z small) g })

    pub plus-is : to_z w32 (of_z w32 (to_z w32 (of_z w32 (pos 10 *ℤ to_z w32 (of_z w32 z))) +ℤ pos k)) ≡ pos 10 *ℤ z +ℤ pos k
    plus-is = to_z-of_z {w = w32} plus-fits ∙ ap (λ (x : ℤ). x +ℤ pos k) times-is
