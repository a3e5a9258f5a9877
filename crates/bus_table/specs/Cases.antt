-- Computed cases: document 01's table of commands, read back row by row.
-- Assumes nothing.
use Rattle.std.specs.Prelude.{◌≡◌, refl, List, [], ◌∷◌, map}
use Rattle.bus_table.specs.Sends.{Sends, Nothing, Cell, Whole}
use Rattle.bus_table.specs.declared.PackWord.TheVariants.{Temperature1, Temperature2, Sum, Current, ChargingCurrent, ChargingVoltage, Status, Mode, Raised, Bled, Outermost}
use Rattle.bus_table.specs.Table.{table, row_of_command}

-- "0x30..0x39: cells 1..10."
pub cell-rows
    : map row_of_command (0x30 ∷ 0x31 ∷ 0x32 ∷ 0x33 ∷ 0x34 ∷ 0x35 ∷ 0x36 ∷ 0x37 ∷ 0x38 ∷ 0x39 ∷ [])
    ≡ map (λ k. Cell (record { 0 = k })) (1 ∷ 2 ∷ 3 ∷ 4 ∷ 5 ∷ 6 ∷ 7 ∷ 8 ∷ 9 ∷ 10 ∷ [])
unfolding row_of_command table
cell-rows = refl

-- The other rows.
pub whole-rows
    : map row_of_command (0x08 ∷ 0x44 ∷ 0x09 ∷ 0x42 ∷ 0x0A ∷ 0x14 ∷ 0x15 ∷ 0x16 ∷ 0x41 ∷ 0x45 ∷ 0x46 ∷ 0x47 ∷ [])
    ≡ map Whole
    (Temperature1 ∷ Temperature2 ∷ Sum ∷ Sum ∷ Current ∷ ChargingCurrent ∷ ChargingVoltage ∷ Status ∷ Mode ∷ Raised ∷ Bled ∷ Outermost ∷ [])
unfolding row_of_command table
whole-rows = refl

-- The codes between and beside the rows send nothing.
abbrev nothing : List Sends
nothing = Nothing ∷ Nothing ∷ Nothing ∷ Nothing ∷ Nothing ∷ Nothing ∷ Nothing ∷ Nothing ∷ []

pub no-rows : map row_of_command (0x00 ∷ 0x07 ∷ 0x3A ∷ 0x3F ∷ 0x40 ∷ 0x43 ∷ 0x48 ∷ 0xFF ∷ []) ≡ nothing
unfolding row_of_command table
no-rows = refl
