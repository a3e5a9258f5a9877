-- Worked cases, computed: what a reader can check by eye.
use Rattle.std.specs.Prelude.{◌≡◌, refl, true, false, [], pos, negsuc, Some, None}
use Rattle.text_fields.specs.Quoted.{quoted}
use Rattle.text_fields.specs.Decimal.{decimal}
use Rattle.text_numbers.specs.Signs.{past_minus, with_sign, signed_number}
use Rattle.text_numbers.specs.Numbers.{digits_to, number_to, read_number, negative, read_signed, signed_text}

-- "0", "65535" are numbers
pub numbers : (read_number (quoted "0") ≡ Some 0) × (read_number (quoted "65535") ≡ Some 65535)
unfolding number_to digits_to
numbers = (refl, refl)

-- "65536", "00", "", "+1", "-1", "4294967296", "1 " are none
pub no-numbers : (read_number (quoted "65536") ≡ None) × (read_number (quoted "00") ≡ None) × (read_number [] ≡ None)
    × (read_number (quoted "+1") ≡ None) × (read_number (quoted "-1") ≡ None)
    × (read_number (quoted "4294967296") ≡ None) × (read_number (quoted "1 ") ≡ None)
unfolding number_to digits_to
no-numbers = (refl, refl, refl, refl, refl, refl, refl)

-- "0", "32767", "-1", "-32768" are signed numbers
pub signed-numbers : (read_signed (quoted "0") ≡ Some (pos 0)) × (read_signed (quoted "32767") ≡ Some (pos 32767))
    × (read_signed (quoted "-1") ≡ Some (negsuc 0)) × (read_signed (quoted "-32768") ≡ Some (negsuc 32767))
unfolding read_signed number_to digits_to
signed-numbers = (refl, refl, refl, refl)

-- minus 0, 1 and 32768
pub negatives : (negative 0 ≡ pos 0) × (negative 1 ≡ negsuc 0) × (negative 32768 ≡ negsuc 32767)
negatives = (refl, refl, refl)

-- "32768", "-32769", "-0", "-", "", "+1", "--1", "-01" are none
pub no-signed-numbers : (read_signed (quoted "32768") ≡ None) × (read_signed (quoted "-32769") ≡ None)
    × (read_signed (quoted "-0") ≡ None) × (read_signed (quoted "-") ≡ None) × (read_signed [] ≡ None)
    × (read_signed (quoted "+1") ≡ None) × (read_signed (quoted "--1") ≡ None)
    × (read_signed (quoted "-01") ≡ None)
unfolding read_signed number_to digits_to
no-signed-numbers = (refl, refl, refl, refl, refl, refl, refl, refl)

-- the text of -32768
pub signed-texts : (signed_text (negsuc 32767) ≡ quoted "-32768") × (signed_text (pos 32767) ≡ quoted "32767")
unfolding signed_text decimal
signed-texts = (refl, refl)

-- where the digits start: behind a minus, and else where the field does; past the end it stays
pub starts : (past_minus (quoted "-5") 0 ≡ 1) × (past_minus (quoted "5-") 0 ≡ 0) × (past_minus (quoted "S\t-5") 2 ≡ 3)
    × (past_minus (quoted "+5") 0 ≡ 0) × (past_minus (quoted "-5") 2 ≡ 2)
unfolding past_minus
starts = (refl, refl, refl, refl, refl)

-- with a minus 1..32768, and without one 0..32767
pub signs : (with_sign true 0 ≡ None) × (with_sign true 1 ≡ Some (negsuc 0)) × (with_sign true 32768 ≡ Some (negsuc 32767))
    × (with_sign true 32769 ≡ None) × (with_sign false 0 ≡ Some (pos 0)) × (with_sign false 32767 ≡ Some (pos 32767))
    × (with_sign false 32768 ≡ None)
unfolding with_sign
signs = (refl, refl, refl, refl, refl, refl, refl)

-- the same of what was read of a field
pub signed-fields : (signed_number true (Some 7) ≡ Some (negsuc 6)) × (signed_number false (Some 7) ≡ Some (pos 7))
    × (signed_number false None ≡ None) × (signed_number true None ≡ None)
unfolding with_sign
signed-fields = (refl, refl, refl, refl)

-- the bytes beside the digits, `/` and `:`, are none; and one digit has its range too
pub beside-digits : (read_number (quoted "/") ≡ None) × (read_number (quoted ":") ≡ None) × (read_number (quoted "1/") ≡ None)
    × (read_number (quoted "1:") ≡ None) × (number_to 5 (quoted "5") ≡ Some 5) × (number_to 5 (quoted "6") ≡ None)
unfolding number_to digits_to
beside-digits = (refl, refl, refl, refl, refl, refl)
