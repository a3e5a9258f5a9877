-- What a page says of its protections: the limits of one, and what an accepted page keeps to.
-- Assumes nothing.
use Rattle.std.specs.Prelude.{◌≡◌, true, List, ℕ, ◌≤◌, ◌<◌, pos, get_or}
use Rattle.units.specs.Levels.{level}
use Rattle.protections.specs.declared.Direction.{Direction}
use Rattle.protections.specs.declared.Limits.{Limits}
use Rattle.protections.specs.Direction.{in_order}
use Rattle.protections.specs.Table.{row_at, protections}

-- What stands where no page says anything.
abbrev pub no_limits : Limits
no_limits = record { trip = level (pos 0); release = level (pos 0); n = 0; m = 0; mask = 0 }

-- The limits of protection p, out of those of all.
abbrev pub limits_at : List Limits → ℕ → Limits
limits_at ls p = get_or ls p no_limits

-- "N and M are 1..240. The mask is 0..3."
abbrev pub least_run : ℕ
least_run = 1

abbrev pub most_run : ℕ
most_run = 240

abbrev pub most_mask : ℕ
most_mask = 3

-- N, M and mask are in these ranges, and trip and release stand in the order of the direction.
pub record GoodLimits (d : Direction) (l : Limits) : Type 0 where
  pub n-least : least_run ≤ l.n
  pub n-most : l.n ≤ most_run
  pub m-least : least_run ≤ l.m
  pub m-most : l.m ≤ most_run
  pub mask-most : l.mask ≤ most_mask
  pub ordered : in_order d l.trip.0 l.release.0 ≡ true

-- The limits of each protection are good by its row of the table.
abbrev pub AllGood : List Limits → Type 0
AllGood ls = (p : ℕ) → p < protections → GoodLimits (row_at p).direction (limits_at ls p)
