-- Worked cases, computed: what a reader can check by eye.
use Rattle.std.specs.Prelude.{Some, None, ◌≡◌, refl, true, false, [], ◌∷◌}
use Rattle.text_fields.specs.Quoted.{quoted}
use Rattle.text_fields.specs.Finding.{before}
use Rattle.text_numbers.specs.Numbers.{number_to, digits_to}
use Rattle.text_number_at.specs.Four.{together, spells_four, valued, read_four}
use Rattle.text_number_at.specs.NumberAt.{Found, number_at, four_at, four_left}
use Rattle.text_number_at.specs.Along.{number_along, ends_field, four_ended, four_tabbed}

-- the numbers of "S<tab>12<tab>3456<tab>65535", and where they end
pub numbers : (number_at (quoted "S\t12\t3456\t65535") 2 ≡ Found 12 4) × (number_at (quoted "S\t12\t3456\t65535") 5 ≡ Found 3456 9)
    × (number_at (quoted "S\t12\t3456\t65535") 10 ≡ Found 65535 15)
unfolding before number_to digits_to
numbers = (refl, refl, refl)

-- a leading zero, a letter among four digits, 65536, an empty field, and a place past the end
pub no-numbers : (number_at (quoted "0123") 0 ≡ None) × (number_at (quoted "12x4") 0 ≡ None) × (number_at (quoted "65536") 0 ≡ None)
    × (number_at (quoted "\t1") 0 ≡ None) × (number_at (quoted "1") 9 ≡ None)
unfolding before number_to digits_to
no-numbers = (refl, refl, refl, refl, refl)

-- the quick way: four bytes from a place on; and whether they are a whole field, which the line or a tab ends
pub fours : (four_at (quoted "S\t12\t3456") 5 ≡ quoted "3456") × (four_at (quoted "1") 0 ≡ 49 ∷ 0 ∷ 0 ∷ 0 ∷ [])
    × (four_at [] 0 ≡ 0 ∷ 0 ∷ 0 ∷ 0 ∷ [])
fours = (refl, refl, refl)

pub whole-fours : (four_left (quoted "1234") 0 ≡ true) × (four_left (quoted "1234\t5") 0 ≡ true) × (four_left (quoted "12345") 0 ≡ false)
    × (four_left (quoted "123") 0 ≡ false) × (four_left (quoted "S\t123") 2 ≡ false) × (four_left (quoted "S\t1234") 2 ≡ true)
    × (four_left (49 ∷ 50 ∷ 51 ∷ 52 ∷ 8 ∷ []) 0 ≡ false) × (four_left (49 ∷ 50 ∷ 51 ∷ 52 ∷ 10 ∷ []) 0 ≡ false)
whole-fours = (refl, refl, refl, refl, refl, refl, refl, refl)

-- four digits at once: they pass up to 9, ten does not at any of the four places, nor does what stands for a letter, nor a 0 that comes first
pub pass : (spells_four (together 1 2 3 4) ≡ true) × (spells_four (together 9 9 9 9) ≡ true) × (spells_four (together 10 2 3 4) ≡ false)
    × (spells_four (together 1 10 3 4) ≡ false) × (spells_four (together 1 2 10 4) ≡ false) × (spells_four (together 1 2 3 10) ≡ false)
    × (spells_four (together 1 2 3 72) ≡ false) × (spells_four (together 138 2 3 4) ≡ false)
    × (spells_four (together 0 2 3 4) ≡ false) × (spells_four (together 1 0 0 0) ≡ true) × (spells_four (together 0 0 0 0) ≡ false)
unfolding spells_four
pass = (refl, refl, refl, refl, refl, refl, refl, refl, refl, refl, refl)

-- and what they spell
pub spell : (valued (together 1 2 3 4) ≡ 1234) × (valued (together 9 9 9 9) ≡ 9999)
unfolding valued
spell = (refl, refl)

-- along some bytes: a number that a tab ends, one that a newline ends, and one that nothing ends; a leading zero, an empty field, and a
-- place past the end
pub along : (number_along (quoted "12\t3456\n7\t8") 0 ≡ Found 12 2) × (number_along (quoted "12\t3456\n7\t8") 3 ≡ Found 3456 7)
    × (number_along (quoted "12\t3456\n7\t8") 8 ≡ Found 7 9) × (number_along (quoted "12\t3456\n7\t8") 10 ≡ None)
    × (number_along (quoted "0123\n") 0 ≡ None) × (number_along (quoted "\n1\n") 0 ≡ None) × (number_along (quoted "1\n") 9 ≡ None)
unfolding before number_to digits_to
along = (refl, refl, refl, refl, refl, refl, refl)

pub ended-fours : (four_ended (quoted "1234\n") 0 ≡ true) × (four_ended (quoted "1234\t5") 0 ≡ true) × (four_ended (quoted "12345") 0 ≡ false)
    × (four_ended (quoted "1234") 0 ≡ false) × (four_ended (quoted "S\t1234\n") 2 ≡ true)
ended-fours = (refl, refl, refl, refl, refl)

pub ends : (ends_field 9 ≡ true) × (ends_field 10 ≡ true) × (ends_field 13 ≡ false) × (ends_field 32 ≡ false)
ends = (refl, refl, refl, refl)

-- four bytes of a text at once: "4200"; a leading zero and a letter give none
pub read-fours : (read_four 52 50 48 48 ≡ Some 4200) × (read_four 48 52 50 48 ≡ None)
    × (read_four 52 50 97 48 ≡ None)
unfolding spells_four valued
read-fours = (refl, refl, refl)

-- four digits and a tab, also behind a letter; a newline behind them, a leading zero, a letter, three digits, five, and only four bytes left
pub tabbed-fours : (four_tabbed (quoted "4200\t") 0 ≡ Some 4200)
    × (four_tabbed (quoted "S\t9876\t1") 2 ≡ Some 9876) × (four_tabbed (quoted "4200\n") 0 ≡ None)
    × (four_tabbed (quoted "0420\t") 0 ≡ None) × (four_tabbed (quoted "42a0\t") 0 ≡ None) × (four_tabbed (quoted "420\t9") 0 ≡ None)
    × (four_tabbed (quoted "42001\t") 0 ≡ None) × (four_tabbed (quoted "4200") 0 ≡ None) × (four_tabbed (quoted "4200\t") 1 ≡ None)
unfolding four_tabbed spells_four valued
tabbed-fours = (refl, refl, refl, refl, refl, refl, refl, refl, refl)
