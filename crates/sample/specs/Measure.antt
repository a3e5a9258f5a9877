-- What a protection looks at in a sample, and whether the sample trips it or qualifies for its release.
-- Assumes nothing.
use Rattle.std.specs.Prelude.{◌≡◌, Bool, true, false, ◌&&◌, ℤ, pos}
use Rattle.std.specs.Int.Signed.{le_z, lt_z, le_z_yes, lt_z_yes, clash_ℤ}
use Rattle.laws.specs.Tests.{by-test, and-left, and-right}
use Rattle.protections.specs.declared.Direction.{Direction}
use Rattle.protections.specs.declared.Direction.TheVariants.{Above, Below}
use Rattle.protections.specs.declared.Quantity.{Quantity}
use Rattle.protections.specs.declared.Quantity.TheVariants.{HighestCell, LowestCell, Current, Temperature1, Temperature2}
use Rattle.protections.specs.declared.Limits.{Limits}
use Rattle.protections.specs.declared.Row.{Row}
use Rattle.protections.specs.Direction.{reaches, back_of}
use Rattle.sample.specs.declared.Sample.{Sample}
use Rattle.sample.specs.declared.Extremes.{Extremes}
use Rattle.sample.specs.Cells.{extremes_of}

-- The table's column "Quantity", as one signed number, of a sample whose highest and lowest cell are e.
abbrev pub measured : Extremes → Quantity → Sample → ℤ
measured e HighestCell s = pos e.highest.volts.0
measured e LowestCell s = pos e.lowest.volts.0
measured e Current s = s.current
measured e Temperature1 s = pos s.t1.0
measured e Temperature2 s = pos s.t2.0

-- The quantity of a sample: the cells that count are its first ones.
unfoldable pub measure : Quantity → Sample → ℤ
measure q s = measured (extremes_of s.cells s.count) q s

-- "Trips": at or above the trip level, or at or below it, as the row says.
abbrev pub trips : Row → Limits → Sample → Bool
trips row l s = reaches row.direction l.trip.0 (measure row.quantity s)

-- "Releases": the other way round, at the release level.
abbrev pub qualifies : Row → Limits → Sample → Bool
qualifies row l s = reaches (back_of row.direction) l.release.0 (measure row.quantity s)

-- "A sample between the two levels": past the release level and short of the trip level.
abbrev pub between : Direction → ℤ → ℤ → ℤ → Bool
between Above trip release v = lt_z release v && lt_z v trip
between Below trip release v = lt_z trip v && lt_z v release

-- A number that is less than another is not reached by it.
pub less-no : (a b : ℤ) → lt_z a b ≡ true → le_z b a ≡ false
less-no a b e = by-test (le_z b a) (λ t. clash_ℤ (lt_z_yes {a = a} {b = b} (rw e tt)) (le_z_yes {a = b} {b = a} (rw t tt))) (λ f. f)

-- It neither trips nor qualifies.
pub between-neither : (d : Direction) (trip release v : ℤ) → between d trip release v ≡ true
    → (reaches d trip v ≡ false) × (reaches (back_of d) release v ≡ false)
between-neither Above trip release v e =
    (less-no v trip (and-right (lt_z release v) (lt_z v trip) e), less-no release v (and-left (lt_z release v) (lt_z v trip) e))
between-neither Below trip release v e =
    (less-no trip v (and-left (lt_z trip v) (lt_z v release) e), less-no v release (and-right (lt_z trip v) (lt_z v release) e))
