-- A current that was read is a signed number of 16 bits.
-- Assumes nothing.
use Rattle.std.specs.Prelude.{Option, Some, is_some, unwrap_or}
use mathlib.Core.Path.{◌≡◌, refl, sym, ap}
use mathlib.Core.Bool.{Bool, true, false}
use Prim.Native.Nat.{ℕ, zero, suc}
use native.Mathlib.Omega.{arith}
use lib.Dec.{ltb}
use lib.IntN.{ℤ, pos}
use borrow.Author.Tests.{ltb-false}
use mir.Val.{to_z, of_z, SFits}
use mir.Syntax.{w16}
use mir.Facts.{to_z-of_z}
use Rattle.laws.specs.Tests.{by-test, clash}
use Rattle.text_numbers.specs.Signs.{with_sign}

in-range : (below : Bool) (v : ℕ) (z : ℤ) → with_sign below v ≡ Some z → SFits w16 z
unfolding with_sign
in-range true zero z e = clash refl (sym (ap is_some e))
in-range true (suc v) z e =
    by-test (ltb 32768 (suc v))
    (λ t. clash refl (sym (ap is_some (rw t at e))))
    (λ t. rw (← ap (λ (o : Option ℤ). unwrap_or o (pos 0)) (rw t at e)) (record { sfits = let k = ltb-false 32768 (suc v) t in omega arith }))
in-range false v z e =
    by-test (ltb 32767 v)
    (λ t. clash refl (sym (ap is_some (rw t at e))))
    (λ t. rw (← ap (λ (o : Option ℤ). unwrap_or o (pos 0)) (rw t at e)) (record { sfits = let k = ltb-false 32767 v t in omega arith }))

pub current-same : (below : Bool) (v : ℕ) (z : ℤ) → with_sign below v ≡ Some z → to_z w16 (of_z w16 z) ≡ z
current-same below v z e = to_z-of_z (in-range below v z e)
