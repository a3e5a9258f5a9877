-- Who wants at one sample, from the cells' millivolts, as a word.
-- Assumes nothing.
use Rattle.std.specs.Prelude.{Bool, List, ℕ, ◌-◌, get_or}
use Rattle.units.specs.declared.MilliVolts.{MilliVolts}
use Rattle.units.specs.Cells.{ten_at_most}
use Rattle.bleed_wants.specs.Wants.{wants}
use Rattle.bleed_wants.specs.Word.{cells_passing}

-- The millivolts of cell k, from an array whose first entry is cell 1.
unfoldable pub volts_of : List MilliVolts → ℕ → ℕ
volts_of cells k = (get_or cells (k - 1) (record { 0 = 0 })).0

-- Which cells want at a sample: what a history of wishes holds of it.
unfoldable pub wishes : Bool → Bool → ℕ → ℕ → ℕ → List MilliVolts → ℕ → Bool
wishes charges raised floor difference lowest cells k = wants charges raised floor difference lowest (volts_of cells k)

-- The word of the cells that want bleeding.
unfoldable pub wanting_word : ℕ → Bool → Bool → ℕ → ℕ → ℕ → List MilliVolts → ℕ
wanting_word n charges raised floor difference lowest cells =
    cells_passing (ten_at_most n) (wishes charges raised floor difference lowest cells)
