-- A case for each of document 01's slips on who wants, and the word of a pack of few cells, computed from the definitions.
-- Assumes nothing.
use Rattle.std.specs.Prelude.{◌≡◌, refl, Bool, true, false, List, [], ◌∷◌, map, pos, negsuc}
use Rattle.units.specs.declared.MilliVolts.{MilliVolts}
use Rattle.laws.specs.Bits.{has_bit, with_bit, with_bit_if}
use Rattle.laws.specs.Words.{bits_of}
use Rattle.bleed_wants.specs.Wants.{is_charging, wants}
use Rattle.bleed_wants.specs.Word.{holds_cell, cells_passing}
use Rattle.bleed_wants.specs.Steps.{volts_of, wishes, wanting_word}

-- "More than" the difference, "at or above" the floor, "at least" the detection current, which is signed.
abbrev tests : List Bool
tests =
    wants true false 3900 10 4000 4010
    ∷ wants true false 3900 10 4000 4011
    ∷ wants true false 3900 10 3000 3899
    ∷ wants true false 3900 10 3000 3900
    ∷ wants true true 3900 10 4000 4011
    ∷ wants false false 3900 10 4000 4011
    ∷ is_charging (pos 100) (pos 99)
    ∷ is_charging (pos 100) (pos 100)
    ∷ is_charging (pos 100) (negsuc 0)
    ∷ []

wants-exactly : tests ≡ false ∷ true ∷ false ∷ true ∷ false ∷ false ∷ false ∷ true ∷ false ∷ []
unfolding wants
wants-exactly = refl

abbrev volts : List MilliVolts
volts = map (λ v. record { 0 = v }) (4011 ∷ 4000 ∷ 4010 ∷ 4500 ∷ 4500 ∷ 0 ∷ 0 ∷ 0 ∷ 0 ∷ 4500 ∷ [])

-- Of a pack of four cells only cells 1 to 4 want; a number over ten stands for ten; and a floor above the lowest cell counts.
few-cells :
    wanting_word 4 true false 3900 10 4000 volts ∷ wanting_word 9 true false 3900 10 4000 volts ∷ wanting_word 10 true false 3900 10 4000 volts
    ∷ wanting_word 11 true false 3900 10 4000 volts ∷ wanting_word 4 true false 4400 10 4000 volts ∷ []
    ≡ 0x009 ∷ 0x019 ∷ 0x219 ∷ 0x219 ∷ 0x008 ∷ []
unfolding wanting_word cells_passing bits_of wishes volts_of wants with_bit_if with_bit
few-cells = refl

-- Cell k has bit k - 1, and there is no cell 0.
cells-of-a-word : map (holds_cell 0x201) (0 ∷ 1 ∷ 2 ∷ 9 ∷ 10 ∷ 11 ∷ []) ≡ false ∷ true ∷ false ∷ false ∷ true ∷ false ∷ []
unfolding holds_cell has_bit
cells-of-a-word = refl

-- The first entry is cell 1, the last is cell 10; there is no other cell.
entries : map (volts_of volts) (1 ∷ 2 ∷ 3 ∷ 10 ∷ 11 ∷ []) ≡ 4011 ∷ 4000 ∷ 4010 ∷ 4500 ∷ 0 ∷ []
unfolding volts_of
entries = refl
