-- The bands: for each quantity the values at which no protection that looks at it moves. They are no part of document 01: the laws of
-- proofs/BandLaws.antt say what they are good for.
-- Assumes nothing.
use Rattle.std.specs.Prelude.{Bool, cond, not, ◌&&◌, List, ℕ, zero, suc, eqb, ℤ, pos, negsuc, get_or, set, replicate}
use Rattle.std.specs.Int.Signed.{lt_z}
use Rattle.units.specs.Levels.{level}
use Rattle.protections.specs.declared.Direction.{Direction}
use Rattle.protections.specs.declared.Direction.TheVariants.{Above, Below}
use Rattle.protections.specs.declared.Quantity.{Quantity}
use Rattle.protections.specs.declared.Quantity.TheVariants.{HighestCell, LowestCell, Current, Temperature1, Temperature2}
use Rattle.protections.specs.declared.Limits.{Limits}
use Rattle.protections.specs.Direction.{back_of}
use Rattle.protections.specs.Table.{row_at}
use Rattle.sample.specs.declared.Sample.{Sample}
use Rattle.sample.specs.declared.Extremes.{Extremes}
use Rattle.sample.specs.Measure.{measured}
use Rattle.guard.specs.declared.rule.Protection.{Protection}
use Rattle.guard.specs.declared.rule.Alarm.{Alarm}
use Rattle.guard.specs.declared.rule.Alarm.TheVariants.{Clear, Raised}
use Rattle.guard.specs.Steps.{no_protection}
use Rattle.guard_watch.specs.declared.Band.{Band}

-- ---- a sample inside every band

-- The place of a quantity's band.
abbrev pub place_of : Quantity → ℕ
place_of HighestCell = 0
place_of LowestCell = 1
place_of Current = 2
place_of Temperature1 = 3
place_of Temperature2 = 4

abbrev pub inside : Band → ℤ → Bool
inside b v = lt_z b.above.0 v && lt_z v b.below.0

-- No value is inside.
abbrev pub nowhere : Band
nowhere = record { above = level (pos 0); below = level (pos 0) }

-- The quantity of a sample whose highest and lowest cell are e is inside its band.
unfoldable pub inside_at : List Band → Extremes → Sample → Quantity → Bool
inside_at bands e s q = inside (get_or bands (place_of q) nowhere) (measured e q s)

-- Every quantity is.
unfoldable pub is_calm : List Band → Extremes → Sample → Bool
is_calm bands e s =
    inside_at bands e s HighestCell && inside_at bands e s LowestCell && inside_at bands e s Current && inside_at bands e s Temperature1
    && inside_at bands e s Temperature2

-- ---- the bands of the protections as they stand

-- The values of a band that do not reach a level.
abbrev pub short_of : Band → Direction → ℤ → Band
short_of b Above l = cond (lt_z l b.below.0) (record { above = b.above; below = level l }) b
short_of b Below l = cond (lt_z b.above.0 l) (record { above = level l; below = b.below }) b

-- There is no run, and it takes one to move.
abbrev pub is_still : ℕ → ℕ → Bool
is_still run needed = eqb run 0 && not (eqb needed 0)

-- With no run, a clear protection moves at a value that reaches its trip level, a raised one at a value that reaches its release level; with
-- a run it moves at any.
abbrev pub narrowed_by : Band → Direction → Limits → Alarm → Band
narrowed_by b d l (Clear run) = cond (is_still run l.n) (short_of b d l.trip.0) nowhere
narrowed_by b d l (Raised run) = cond (is_still run l.m) (short_of b (back_of d) l.release.0) nowhere

unfoldable pub narrowed : Band → Direction → Protection → Band
narrowed b d p = narrowed_by b d p.limits p.alarm

-- The band of what protection k looks at, narrowed by it; the others as they are.
unfoldable pub narrowed_at : List Band → ℕ → Protection → List Band
narrowed_at bands k p =
    set bands (place_of (row_at k).quantity) (narrowed (get_or bands (place_of (row_at k).quantity) nowhere) (row_at k).direction p)

-- A band that no level of a page and no value of a sample is outside of.
abbrev pub anywhere : Band
anywhere = record { above = level (negsuc 99999); below = level (pos 100000) }

-- The bands of the first k protections.
unfoldable pub bands_to : List Protection → ℕ → List Band
bands_to ps zero = replicate 5 anywhere
bands_to ps (suc k) = narrowed_at (bands_to ps k) k (get_or ps k no_protection)
