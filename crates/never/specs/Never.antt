-- What the two things that never happen are: a sample that trips and releases one protection at once, and a lowest cell that wants bleeding.
-- Their theorems stand in proofs/Never.
-- Assumes nothing.
use Rattle.std.specs.Prelude.{Bool, ◌&&◌, List, ℕ, ◌≤◌}
use Rattle.protections.specs.Limits.{limits_at}
use Rattle.protections.specs.Table.{row_at}
use Rattle.sample.specs.declared.Sample.{Sample}
use Rattle.sample.specs.Cells.{extremes_of}
use Rattle.sample.specs.Measure.{trips, qualifies}
use Rattle.bleed_wants.specs.Steps.{volts_of}
use Rattle.pack.specs.Kept.{page_of}

-- ==== "A SAMPLE THAT TRIPS AND RELEASES ONE PROTECTION AT ONCE"

module _ (bytes : List ℕ) (p : ℕ) where
  -- The sample meets the trip condition of protection p, or its release condition, as the loaded page says them.
  abbrev pub trips_it : Sample → Bool
  trips_it = trips (row_at p) (limits_at (page_of bytes).limits p)

  abbrev pub releases_it : Sample → Bool
  releases_it = qualifies (row_at p) (limits_at (page_of bytes).limits p)

  abbrev pub both_at_once : Sample → Bool
  both_at_once s = trips_it s && releases_it s

-- ==== "A LOWEST CELL THAT WANTS BLEEDING"

-- A cell of the sample that none of its cells is below: where several are equal, each of them is one. Entries past the count are no cells.
pub record IsLowest (s : Sample) (k : ℕ) : Type 0 where
  pub first : 1 ≤ k
  pub last : k ≤ s.count
  pub least : (d : ℕ) → 1 ≤ d → d ≤ s.count → volts_of s.cells k ≤ volts_of s.cells d

-- What the step takes for the lowest cell's millivolts. Nothing below these three looks into what the search for it answers.
abbrev pub lowest_volts : Sample → ℕ
lowest_volts s = (extremes_of s.cells s.count).lowest.volts.0
