-- Whose turn it is at the next sample: the start cell, the run counters, and who rests, as a word.
-- Assumes nothing.
use Rattle.std.specs.Prelude.{Bool, cond, List, ℕ, ◌+◌, ◌-◌, eqb, leb, ltb, get_or}
use Rattle.laws.specs.Bits.{has_bit}
use Rattle.laws.specs.Each.{each_to}
use Rattle.laws.specs.Latest.{next_run}
use Rattle.bleed_wants.specs.Word.{cells_passing}
use Rattle.units.specs.Cells.{ten_at_most}

-- The cell after k, from n to 1.
unfoldable pub next_cell : ℕ → ℕ → ℕ
next_cell n k = cond (ltb k n) (k + 1) 1

-- The run counters of the first m cells after a sample, and the others as they were: cell i + 1 has bit i and entry i.
abbrev pub next_runs_to : ℕ → ℕ → List ℕ → List ℕ
next_runs_to bled m runs = each_to 0 (λ i run. next_run (has_bit bled i) run) m runs

-- The run counters of all ten cells after a sample.
unfoldable pub next_runs : ℕ → List ℕ → List ℕ
next_runs bled runs = next_runs_to bled 10 runs

-- The run counter of cell k, from an array whose first entry is cell 1's.
unfoldable pub cell_run_of : List ℕ → ℕ → ℕ
cell_run_of runs k = get_or runs (k - 1) 0

-- The run of bled samples of cell k has reached R.
unfoldable pub run_reached : ℕ → List ℕ → ℕ → Bool
run_reached R runs k = leb R (cell_run_of runs k)

-- The word of the cells that rest, from the cells bled at the sample before and the run counters: nobody rests where nobody was bled.
-- Who rests is defined from the history, `resting` in Walk/History; `resting-is` in Walk/Balance says that this word has just those.
unfoldable pub resting_word : ℕ → ℕ → ℕ → List ℕ → ℕ
resting_word n R bled runs = cond (eqb bled 0) 0 (cells_passing (ten_at_most n) (run_reached R runs))
