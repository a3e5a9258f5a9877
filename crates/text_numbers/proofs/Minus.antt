-- Minus a number up to 32768, as the difference of -1 and one less, which fits 16 bits.
use Rattle.std.specs.Prelude.{Some}
use Prim.Native.Nat.{ℕ, zero, suc, ◌+◌, ◌-◌, ◌≤◌}
use mathlib.Core.Path.{◌≡◌, refl, ap, ◌∙◌}
use native.Mathlib.Omega.{arith}
use lib.IntN.{pos, negsuc, ◌-ℤ◌}
use mir.Syntax.{w16}
use mir.Val.{SFits, to_z, of_z}
use mir.Facts.{to_z-of_z, to_z_pos}
use Rattle.text_numbers.specs.Numbers.{negative, below_of}

minus-one : (u : ℕ) → negsuc 0 -ℤ pos u ≡ negsuc u
minus-one zero = refl
minus-one (suc u) = let e : suc (0 + u) ≡ suc u = omega arith in ap negsuc e

less-one : (v : ℕ) → 1 ≤ v → negsuc (v - 1) ≡ negative v
less-one zero l = absurd (omega arith)
less-one (suc v) l = let e : suc v - 1 ≡ v = omega arith in ap negsuc e

module _ (v : ℕ) (l : 1 ≤ v) (h : v ≤ 32768) where
  fall : negsuc 0 -ℤ to_z w16 (v - 1) ≡ negsuc (v - 1)
  fall = rw (to_z_pos w16 {n = v - 1} (omega arith)) (minus-one (v - 1))

  pub fall-fits : SFits w16 (negsuc 0 -ℤ to_z w16 (v - 1))
  fall-fits = rw fall (record { sfits = omega arith })

  pub fall-is : to_z w16 (of_z w16 (negsuc 0 -ℤ to_z w16 (v - 1))) ≡ negative v
  fall-is = to_z-of_z fall-fits ∙ fall ∙ less-one v l

-- a number behind a minus that is not 0
pub below-some : (v : ℕ) → 1 ≤ v → below_of (Some v) ≡ Some (negative v)
below-some zero l = absurd (omega arith)
below-some (suc v) l = refl
