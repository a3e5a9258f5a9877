-- Computed cases of what never happens: at each level, between the two, and of three cells that differ by one.
-- Assumes nothing.
use Rattle.std.specs.Prelude.{◌≡◌, refl, Bool, true, false, List, [], ◌∷◌, map, ℕ, pos, get_or}
use Rattle.protections.specs.declared.Limits.{Limits}
use Rattle.protections.specs.Table.{row_at, table}
use Rattle.page_judge.specs.Worked.{page_with, put}
use Rattle.sample.specs.declared.Sample.{Sample}
use Rattle.sample.specs.Cases.{below_zero}
use Rattle.sample.specs.Cells.{best_of, extremes_of}
use Rattle.sample.specs.Measure.{measure, trips, qualifies}
use Rattle.guard.specs.Cases.{limited, starred_limits, high, flow}
use Rattle.demands.specs.Shown.{shown_words, wanted, nobody}
use Rattle.demands.specs.Written.{charged, computed}

-- Whether each sample trips protection p, and whether it meets its release condition.
abbrev answers : ℕ → Limits → List Sample → List (List Bool)
answers p l = map (λ s. trips (row_at p) l s ∷ qualifies (row_at p) l s ∷ [])

abbrev trip : List Bool
trip = true ∷ false ∷ []

abbrev release : List Bool
release = false ∷ true ∷ []

abbrev neither : List Bool
neither = false ∷ false ∷ []

-- Trip 4250, release 4150.
over-voltage : answers 0 starred_limits (high 4250 ∷ high 4249 ∷ high 4200 ∷ high 4151 ∷ high 4150 ∷ []) ≡ trip ∷ neither ∷ neither ∷ neither ∷ release ∷ []
unfolding row_at table measure extremes_of best_of
over-voltage = refl

-- The other direction: trip -5000 mA, release -100 mA.
over-discharge :
    answers 3 (limited (below_zero 5000) (below_zero 100) 1 1 2) (flow (below_zero 5000) ∷ flow (below_zero 4999) ∷ flow (below_zero 101) ∷ flow (below_zero 100) ∷ [])
    ≡ trip ∷ neither ∷ neither ∷ release ∷ []
unfolding row_at table measure
over-discharge = refl

-- The ends of 16 bits, in both directions.
ends-of-currents :
    answers 2 (limited (pos 32767) (below_zero 32768) 1 1 1) (flow (pos 32767) ∷ flow (pos 0) ∷ flow (below_zero 32768) ∷ [])
    ∷ answers 4 (limited (below_zero 32768) (pos 32767) 1 1 2) (flow (below_zero 32768) ∷ flow (pos 0) ∷ flow (pos 32767) ∷ [])
    ∷ []
    ≡ (trip ∷ neither ∷ release ∷ []) ∷ (trip ∷ neither ∷ release ∷ []) ∷ []
unfolding row_at table measure
ends-of-currents = refl

-- Three cells and a difference of 1 mV: of 4000, 4001 and 4002 the third alone wants and is bled; of 4000, 4000 and 4002 too, where two
-- are lowest; and of three that are equal nobody.
abbrev narrow : List ℕ
narrow = page_with (put 1 3 ∷ put 5 1 ∷ [])

abbrev wanting : List ℕ → List Bool
wanting cells = map (get_or (wanted narrow (charged cells ∷ [])) 0 nobody) (1 ∷ 2 ∷ 3 ∷ [])

only-the-third :
    wanting (4000 ∷ 4001 ∷ 4002 ∷ []) ∷ wanting (4000 ∷ 4000 ∷ 4002 ∷ []) ∷ wanting (4000 ∷ 4000 ∷ 4000 ∷ []) ∷ []
    ≡ (false ∷ false ∷ true ∷ []) ∷ (false ∷ false ∷ true ∷ []) ∷ (false ∷ false ∷ false ∷ []) ∷ []
unfolding computed
only-the-third = refl

only-the-third-bled :
    map (λ cells. shown_words narrow (charged cells ∷ [])) ((4000 ∷ 4001 ∷ 4002 ∷ []) ∷ (4000 ∷ 4000 ∷ 4002 ∷ []) ∷ (4000 ∷ 4000 ∷ 4000 ∷ []) ∷ [])
    ≡ (4 ∷ []) ∷ (4 ∷ []) ∷ (0 ∷ []) ∷ []
unfolding computed
only-the-third-bled = refl
