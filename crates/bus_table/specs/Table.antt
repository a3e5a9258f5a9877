-- Document 01's table of commands, row by row, and document 02's row behind it: "command 0x47, new with us".
-- Assumes nothing.
use Rattle.std.specs.Prelude.{◌≡◌, refl, cond, List, [], ◌∷◌, ℕ, eqb}
use Rattle.std.proofs.Common.{sym, ne_eqb}
use Rattle.bus_table.specs.Sends.{Sends, Nothing, Cell, Whole}
use Rattle.bus_table.specs.declared.PackWord.{PackWord}
use Rattle.bus_table.specs.declared.PackWord.TheVariants.{Temperature1, Temperature2, Sum, Current, ChargingCurrent, ChargingVoltage, Status, Mode, Raised, Bled, Outermost}

-- A command, and what it sends.
pub record Row : Type 0 where
  pub command : ℕ
  pub sends : Sends

abbrev word : ℕ → PackWord → Row
word c w = record { command = c; sends = Whole w }

abbrev cell : ℕ → ℕ → Row
cell c k = record { command = c; sends = Cell (record { 0 = k }) }

unfoldable pub table : List Row
table =
    word 0x08 Temperature1
    ∷ word 0x44 Temperature2
    ∷ word 0x09 Sum
    ∷ word 0x42 Sum
    ∷ word 0x0A Current
    ∷ word 0x14 ChargingCurrent
    ∷ word 0x15 ChargingVoltage
    ∷ word 0x16 Status
    ∷ cell 0x30 1
    ∷ cell 0x31 2
    ∷ cell 0x32 3
    ∷ cell 0x33 4
    ∷ cell 0x34 5
    ∷ cell 0x35 6
    ∷ cell 0x36 7
    ∷ cell 0x37 8
    ∷ cell 0x38 9
    ∷ cell 0x39 10
    ∷ word 0x41 Mode
    ∷ word 0x45 Raised
    ∷ word 0x46 Bled
    ∷ word 0x47 Outermost
    ∷ []

-- The row of a command; a command that is not in the table sends nothing.
abbrev pub look_up : List Row → ℕ → Sends
look_up [] c = Nothing
look_up (r ∷ rs) c = cond (eqb c r.command) r.sends (look_up rs c)

unfoldable pub row_of_command : ℕ → Sends
unfolding table
row_of_command c = look_up table c

-- ---- what the code needs of it

-- What is known of a command that is none of the rows', beside T.
abbrev pub Others : List Row → ℕ → Type 0 → Type 0
Others [] c T = T
Others (r ∷ rs) c T = Others rs c (T × (c ≡ r.command → ⊥))

others-keep : (rs : List Row) (c : ℕ) (T : Type 0) → Others rs c T → T
others-keep [] c T o = o
others-keep (r ∷ rs) c T o = (others-keep rs c (T × (c ≡ r.command → ⊥)) o).0

others-none : (rs : List Row) (c : ℕ) (T : Type 0) → Others rs c T → look_up rs c ≡ Nothing
others-none [] c T o = refl
others-none (r ∷ rs) c T o =
    rw (ne_eqb c r.command (others-keep rs c (T × (c ≡ r.command → ⊥)) o).1) (others-none rs c (T × (c ≡ r.command → ⊥)) o)

pub row-none : (c : ℕ) → Others table c (Unit {0}) → Nothing ≡ row_of_command c
unfolding row_of_command
row-none c o = sym (others-none table c (Unit {0}) o)
