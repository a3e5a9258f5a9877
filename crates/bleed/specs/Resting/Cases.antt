-- Who rests in a pack of few cells, the next cell, and how the run counters go on, computed from the definitions.
-- Assumes nothing.
use Rattle.std.specs.Prelude.{◌≡◌, refl, List, [], ◌∷◌, map, ℕ}
use Rattle.laws.specs.Bits.{has_bit, with_bit, with_bit_if}
use Rattle.laws.specs.Each.{each_to}
use Rattle.laws.specs.Latest.{next_run}
use Rattle.laws.specs.Words.{bits_of}
use Rattle.bleed_wants.specs.Word.{cells_passing}
use Rattle.bleed.specs.Resting.Steps.{next_cell, next_runs, cell_run_of, run_reached, resting_word}

abbrev counters : List ℕ
counters = 2 ∷ 1 ∷ 2 ∷ 240 ∷ 0 ∷ 0 ∷ 0 ∷ 0 ∷ 0 ∷ 3 ∷ []

-- Of a pack of three cells only cells 1 to 3 rest, those whose run is at least 2; nobody rests if nobody was bled at the sample before.
counters-rest :
    resting_word 3 2 1 counters ∷ resting_word 3 3 1 counters ∷ resting_word 3 2 0 counters ∷ resting_word 10 2 1 counters ∷ resting_word 11 2 1 counters ∷ []
    ≡ 0x005 ∷ 0 ∷ 0 ∷ 0x20D ∷ 0x20D ∷ []
unfolding resting_word cells_passing bits_of run_reached cell_run_of with_bit_if with_bit
counters-rest = refl

-- The run of a bled cell goes on, that of another ends: cells 1, 3 and 10 are bled.
counters-go-on : next_runs 0x205 counters ≡ 3 ∷ 0 ∷ 3 ∷ 0 ∷ 0 ∷ 0 ∷ 0 ∷ 0 ∷ 0 ∷ 4 ∷ []
unfolding next_runs next_run each_to has_bit
counters-go-on = refl

-- From n to 1; what is past n goes to 1 too.
cells-go-on : map (next_cell 3) (1 ∷ 2 ∷ 3 ∷ 9 ∷ []) ≡ 2 ∷ 3 ∷ 1 ∷ 1 ∷ []
unfolding next_cell
cells-go-on = refl
