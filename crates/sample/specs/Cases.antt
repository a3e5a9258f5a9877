-- Samples written short, and computed cases that pin each quantity.
-- Assumes nothing.
use Rattle.std.specs.Prelude.{◌≡◌, refl, true, false, List, [], ◌∷◌, map, ℕ, zero, suc, ℤ, pos, negsuc}
use Rattle.units.specs.declared.MilliVolts.{MilliVolts}
use Rattle.laws.specs.Numbered.{list_from, list_of}
use Rattle.protections.specs.declared.Direction.TheVariants.{Above, Below}
use Rattle.protections.specs.Table.{row_at, table, protections}
use Rattle.sample.specs.declared.Sample.{Sample}
use Rattle.sample.specs.declared.Extremes.{Extremes}
use Rattle.sample.specs.Cells.{best_of, extremes_of}
use Rattle.sample.specs.Measure.{measure, between}

-- ---- samples, written short

-- The number below zero: `below_zero 5` is -5.
abbrev pub below_zero : ℕ → ℤ
below_zero zero = pos 0
below_zero (suc k) = negsuc k

abbrev pub cells_from : List ℕ → List MilliVolts
cells_from [] = []
cells_from (x ∷ l) = record { 0 = x } ∷ cells_from l

abbrev pub sampled : ℕ → List ℕ → ℤ → ℕ → ℕ → Sample
sampled count cells current t1 t2 =
    record { count = count; cells = cells_from cells; current = current; t1 = record { 0 = t1 }; t2 = record { 0 = t2 } }

-- ---- each protection looks at its own quantity, and entries past the count are no cells

abbrev mixed : Sample
mixed = sampled 3 (4000 ∷ 4020 ∷ 3990 ∷ 5999 ∷ 1 ∷ 0 ∷ 0 ∷ 0 ∷ 0 ∷ 0 ∷ []) (below_zero 7) 2981 3002

pub quantities
    : list_of (λ p. measure (row_at p).quantity mixed) protections
    ≡ (pos 4020 ∷ pos 3990 ∷ below_zero 7 ∷ below_zero 7 ∷ below_zero 7 ∷ pos 2981 ∷ pos 2981 ∷ pos 3002 ∷ pos 2981 ∷ pos 2981 ∷ [])
unfolding list_of list_from measure extremes_of best_of row_at table
quantities = refl

-- A count over ten looks at ten entries; of no cell, both are 0.
abbrev ten : List MilliVolts
ten = cells_from (4000 ∷ 4020 ∷ 3990 ∷ 5999 ∷ 1 ∷ 4000 ∷ 4000 ∷ 4000 ∷ 4000 ∷ 6000 ∷ [])

-- The number and the millivolts of the highest, then of the lowest.
abbrev pair : ℕ → ℕ → ℕ → ℕ → Extremes
pair i h k l = record { highest = record { number = record { 0 = i }; volts = record { 0 = h } }; lowest = record { number = record { 0 = k }; volts = record { 0 = l } } }

pub counts : map (extremes_of ten) (0 ∷ 1 ∷ 3 ∷ 4 ∷ 9 ∷ 10 ∷ 200 ∷ [])
    ≡ (pair 0 0 0 0 ∷ pair 1 4000 1 4000 ∷ pair 2 4020 3 3990 ∷ pair 4 5999 3 3990 ∷ pair 4 5999 5 1 ∷ pair 10 6000 5 1 ∷ pair 10 6000 5 1 ∷ [])
unfolding extremes_of best_of
counts = refl

-- ---- "the lowest number where cells are equal"

-- Equal cells at both ends: the first of each.
pub equal-ends : extremes_of (cells_from (4000 ∷ 4020 ∷ 4020 ∷ 3990 ∷ 3990 ∷ 0 ∷ 0 ∷ 0 ∷ 0 ∷ 0 ∷ [])) 5 ≡ pair 2 4020 4 3990
unfolding extremes_of best_of
equal-ends = refl

-- All equal: cell 1 on both sides.
abbrev level-cells : List MilliVolts
level-cells = cells_from (4000 ∷ 4000 ∷ 4000 ∷ 4000 ∷ 4000 ∷ 4000 ∷ 4000 ∷ 4000 ∷ 4000 ∷ 4000 ∷ [])

pub all-equal : map (extremes_of level-cells) (2 ∷ 5 ∷ 10 ∷ []) ≡ (pair 1 4000 1 4000 ∷ pair 1 4000 1 4000 ∷ pair 1 4000 1 4000 ∷ [])
unfolding extremes_of best_of
all-equal = refl

-- Ten cells, the extremes at the two ends; and the other way round.
pub ends
    : map (λ cells. extremes_of (cells_from cells) 10)
    ((4100 ∷ 4001 ∷ 4002 ∷ 4003 ∷ 4004 ∷ 4005 ∷ 4006 ∷ 4007 ∷ 4008 ∷ 3900 ∷ [])
    ∷ (3900 ∷ 4001 ∷ 4002 ∷ 4003 ∷ 4004 ∷ 4005 ∷ 4006 ∷ 4007 ∷ 4008 ∷ 4100 ∷ [])
    ∷ [])
    ≡ (pair 1 4100 10 3900 ∷ pair 10 4100 1 3900 ∷ [])
unfolding extremes_of best_of
ends = refl

-- Two cells.
pub two-cells
    : map (λ cells. extremes_of (cells_from cells) 2) ((4000 ∷ 4020 ∷ []) ∷ (4020 ∷ 4000 ∷ []) ∷ (0 ∷ 0 ∷ []) ∷ [])
    ≡ (pair 2 4020 1 4000 ∷ pair 1 4020 2 4000 ∷ pair 1 0 1 0 ∷ [])
unfolding extremes_of best_of
two-cells = refl

-- ---- between the two levels, and at neither of them

pub between-above : map (between Above (pos 4250) (pos 4150)) (pos 4100 ∷ pos 4150 ∷ pos 4151 ∷ pos 4249 ∷ pos 4250 ∷ pos 4300 ∷ [])
    ≡ false ∷ false ∷ true ∷ true ∷ false ∷ false ∷ []
between-above = refl

pub between-below : map (between Below (below_zero 5000) (below_zero 100)) (below_zero 5001 ∷ below_zero 5000 ∷ below_zero 4999 ∷ below_zero 101 ∷ below_zero 100 ∷ pos 5 ∷ [])
    ≡ false ∷ false ∷ true ∷ true ∷ false ∷ false ∷ []
between-below = refl
