-- An `S` line as the reader takes it: the current without its minus, temperature 1, temperature 2 and the cells, number by number.
-- Assumes nothing.
use Rattle.std.specs.Prelude.{◌≡◌, Bool, List, [], ◌∷◌, ℕ, zero, suc, ◌+◌, ◌≤◌, drop, get_or, replicate}
use Rattle.laws.specs.Each.{each_to}
use Rattle.units.specs.declared.MilliVolts.{MilliVolts}
use Rattle.sample.specs.Cells.{no_volts}
use Rattle.text_numbers.specs.Numbers.{read_number}
use Rattle.text_numbers.specs.Signs.{with_sign, signed_number}
use Rattle.log_entries.specs.declared.Entry.{Entry}
use Rattle.log_entries.specs.Entry.{malformed, if_signed, cells_from, second_from, first_from}

-- Numbers as millivolts.
abbrev pub in_milli_volts : List ℕ → List MilliVolts
in_milli_volts [] = []
in_milli_volts (v ∷ vs) = record { 0 = v } ∷ in_milli_volts vs

-- The cells among the thirteen numbers: those behind the current and the two temperatures.
unfoldable pub cells_of : List ℕ → List MilliVolts
cells_of numbers = in_milli_volts (drop 3 numbers)

-- What the fields of an `S` line say, the first of them without its minus.
unfoldable pub read_numbers : Bool → List (List ℕ) → Entry
read_numbers below [] = malformed
read_numbers below (f ∷ fs) = if_signed (signed_number below (read_number f)) (λ current. first_from current fs)

-- What the fields that are left say, behind the first k numbers.
unfoldable pub behind : Bool → ℕ → List ℕ → List (List ℕ) → Entry
behind below zero numbers fs = read_numbers below fs
behind below (suc zero) numbers fs = if_signed (with_sign below (get_or numbers 0 0)) (λ current. first_from current fs)
behind below (suc (suc zero)) numbers fs =
    if_signed (with_sign below (get_or numbers 0 0)) (λ current. second_from current (get_or numbers 1 0) fs)
behind below (suc (suc (suc k))) numbers fs =
    if_signed (with_sign below (get_or numbers 0 0)) (λ current. cells_from current (get_or numbers 1 0) (get_or numbers 2 0) k (cells_of numbers) fs)

-- No cell was read yet.
abbrev pub NoCell : ℕ → List ℕ → Type 0
NoCell k numbers = k ≤ 3 → cells_of numbers ≡ replicate 10 no_volts

-- The first m of them in turn, in place of the entries of `cells`.
abbrev pub cells_to : List ℕ → ℕ → List MilliVolts → List MilliVolts
cells_to numbers m cells = each_to no_volts (λ i old. record { 0 = get_or numbers (i + 3) 0 }) m cells
