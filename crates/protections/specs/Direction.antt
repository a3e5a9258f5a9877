-- What a direction says: which values reach a level, and in which order trip and release stand.
-- Assumes nothing.
use Rattle.std.specs.Prelude.{◌≡◌, Bool, true, false, ℤ, ◌≤ℤ◌, ◌<ℤ◌}
use Rattle.std.specs.Int.Signed.{le_z, lt_z, le_z_yes, lt_z_yes, <ℤ-≤ℤ_trans, clash_ℤ}
use Rattle.laws.specs.Tests.{by-test}
use Rattle.protections.specs.declared.Direction.{Direction}
use Rattle.protections.specs.declared.Direction.TheVariants.{Above, Below}

-- "At or above" the level, or "at or below" it.
abbrev pub reaches : Direction → ℤ → ℤ → Bool
reaches Above level v = le_z level v
reaches Below level v = le_z v level

-- "At or above" releases at or below the release level; "at or below" releases at or above it.
abbrev pub back_of : Direction → Direction
back_of Above = Below
back_of Below = Above

-- The release level must be less than trip for "at or above", greater for "at or below".
abbrev pub in_order : Direction → ℤ → ℤ → Bool
in_order Above trip release = lt_z release trip
in_order Below trip release = lt_z trip release

-- ---- never both at once

lt : (a b : ℤ) → lt_z a b ≡ true → a <ℤ b
lt a b e = lt_z_yes (rw e tt)

le : (a b : ℤ) → le_z a b ≡ true → a ≤ℤ b
le a b e = le_z_yes (rw e tt)

-- A value that reaches the trip level does not reach the release level, if the two are in order.
pub never-both : (d : Direction) (trip release v : ℤ) → in_order d trip release ≡ true → reaches d trip v ≡ true
    → reaches (back_of d) release v ≡ false
never-both Above trip release v p q =
    by-test (le_z v release)
    (λ t. clash_ℤ (<ℤ-≤ℤ_trans (lt release trip p) (le trip v q)) (le v release t))
    (λ f. f)
never-both Below trip release v p q =
    by-test (le_z release v)
    (λ t. clash_ℤ (<ℤ-≤ℤ_trans (lt trip release p) (le release v t)) (le v trip q))
    (λ f. f)
