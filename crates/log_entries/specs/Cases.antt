-- Worked lines, computed: what a reader can check by eye.
-- Assumes nothing.
use Rattle.std.specs.Prelude.{ℕ, ◌≡◌, refl, true, false, List, [], ◌∷◌, pos, negsuc, length, replicate, Some, None}
use Rattle.text_fields.specs.Quoted.{quoted}
use Rattle.units.specs.declared.MilliVolts.{MilliVolts}
use Rattle.sample.specs.Cells.{no_volts}
use Rattle.text_fields.specs.Finding.{lacks}
use Rattle.text_fields.specs.Fields.{fields_of}
use Rattle.text_numbers.specs.Numbers.{number_to, digits_to, read_signed}
use Rattle.log_entries.specs.declared.Kind.TheVariants.{Offer, Command, Malformed}
use Rattle.log_entries.specs.declared.Entry.TheVariants as entry
use Rattle.log_entries.specs.Entry.{malformed, command, offer, kind_of, read_command, cells_from, second_from, first_from, read_sample, fields_say, read_entry}
use Rattle.log_entries.specs.Left.{left}
use Rattle.log_entries.specs.InTurn.{cells_of, read_numbers}
use Rattle.text_numbers.specs.Signs.{with_sign}
use Rattle.text_fields.specs.Finding.{before}
use Rattle.log_entries.specs.Ahead.{found, rest_of, end_from, found_as, read_ahead}

abbrev mv : ℕ → MilliVolts
mv v = record { 0 = v }

abbrev zeros : ℕ → List MilliVolts
zeros n = replicate n no_volts

-- `F 3`, and `F 65535`: a command is any 16-bit number here, and the pack refuses what is above 3
pub command-read : (read_entry (quoted "F\t3") ≡ command 3)
    × (read_entry (quoted "F\t65535") ≡ command 65535)
unfolding read_entry fields_say read_sample first_from second_from cells_from read_command lacks fields_of number_to digits_to read_signed
command-read = (refl, refl)

-- the second line of 01's example; the current alone may have a minus
pub sample-read : (read_entry (quoted "S\t500\t2980\t2980\t4000\t4020") ≡ offer (pos 500) 2980 2980 2 (mv 4000 ∷ mv 4020 ∷ zeros 8))
    × (read_entry (quoted "S\t-32768\t0\t65535") ≡ offer (negsuc 32767) 0 65535 0 (zeros 10))
unfolding read_entry fields_say read_sample first_from second_from cells_from read_command lacks fields_of number_to digits_to read_signed
sample-read = (refl, refl)

-- 0 is a number in range everywhere: a current, both temperatures and cells of 0, and a command of 0
pub zeros-read : (read_entry (quoted "S\t0\t2980\t0\t0\t4000\t0") ≡ offer (pos 0) 2980 0 3 (mv 0 ∷ mv 4000 ∷ mv 0 ∷ zeros 7))
    × (read_entry (quoted "S\t-1\t0\t2980\t0") ≡ offer (negsuc 0) 0 2980 1 (zeros 10))
    × (read_entry (quoted "F\t0") ≡ command 0)
unfolding read_entry fields_say read_sample first_from second_from cells_from read_command lacks fields_of number_to digits_to read_signed
zeros-read = (refl, refl, refl)

-- where each number of an `S` line goes: eleven unlike ones, and no cell behind the eighth
pub sample-fields : read_entry (quoted "S\t-7\t2981\t2992\t3001\t3002\t3003\t3004\t3005\t3006\t3007\t3008")
    ≡ entry.Offer (record {
      count = 8;
      cells = mv 3001 ∷ mv 3002 ∷ mv 3003 ∷ mv 3004 ∷ mv 3005 ∷ mv 3006 ∷ mv 3007 ∷ mv 3008 ∷ zeros 2;
      current = negsuc 6;
      t1 = record { 0 = 2981 };
      t2 = record { 0 = 2992 };
    })
unfolding read_entry fields_say read_sample first_from second_from cells_from read_command lacks fields_of number_to digits_to read_signed
sample-fields = refl

-- what an `F` line and a malformed line say, every field
pub other-fields : (read_entry (quoted "F\t2") ≡ entry.Command 2)
    × (read_entry (quoted "F") ≡ entry.Malformed)
unfolding read_entry fields_say read_sample first_from second_from cells_from read_command lacks fields_of number_to digits_to read_signed
other-fields = (refl, refl)

-- the kinds of the three
pub kinds : (kind_of (offer (pos 1) 2 3 0 (zeros 10)) ≡ Offer) × (kind_of (command 3) ≡ Command) × (kind_of malformed ≡ Malformed)
kinds = (refl, refl, refl)

-- any other first field or count of fields: the empty line, `S`, `F`, `f 3`, `F 3 3`, `FF 3`, a trailing tab, `S` with two numbers
pub fields-wrong : (read_entry [] ≡ malformed)
    × (read_entry (quoted "S") ≡ malformed)
    × (read_entry (quoted "F") ≡ malformed)
    × (read_entry (quoted "f\t3") ≡ malformed)
    × (read_entry (quoted "F\t3\t3") ≡ malformed)
    × (read_entry (quoted "FF\t3") ≡ malformed)
    × (read_entry (quoted "F\t3\t") ≡ malformed)
    × (read_entry (quoted "S\t500\t2980\t2980\t") ≡ malformed)
    × (read_entry (quoted "S\t500\t2980") ≡ malformed)
    × (read_entry (quoted "\tF\t3") ≡ malformed)
unfolding read_entry fields_say read_sample first_from second_from cells_from read_command lacks fields_of number_to digits_to read_signed
fields-wrong = (refl, refl, refl, refl, refl, refl, refl, refl, refl, refl)

-- leading zeros, `-0`, a minus elsewhere, 65536, 32768 as a current, a plus, a blank, a letter
pub numbers-wrong : (read_entry (quoted "F\t03") ≡ malformed)
    × (read_entry (quoted "S\t-0\t2980\t2980") ≡ malformed)
    × (read_entry (quoted "S\t1\t-2980\t2980") ≡ malformed)
    × (read_entry (quoted "F\t65536") ≡ malformed)
    × (read_entry (quoted "S\t32768\t2980\t2980") ≡ malformed)
    × (read_entry (quoted "S\t+1\t2980\t2980") ≡ malformed)
    × (read_entry (quoted "F\t 3") ≡ malformed)
    × (read_entry (quoted "F\tx") ≡ malformed)
unfolding read_entry fields_say read_sample first_from second_from cells_from read_command lacks fields_of number_to digits_to read_signed
numbers-wrong = (refl, refl, refl, refl, refl, refl, refl, refl)

-- a carriage return; eleven cells
pub returns-and-more : (read_entry (quoted "F\t3\r") ≡ malformed)
    × (read_entry (quoted "S\t1\t2\t3\t1\t1\t1\t1\t1\t1\t1\t1\t1\t1\t1") ≡ malformed)
unfolding read_entry fields_say read_sample first_from second_from cells_from read_command lacks fields_of number_to digits_to read_signed
returns-and-more = (refl, refl)

-- the longest line that can be read: `S`, -32768, and 65535 twelve times
abbrev pub eighty : List ℕ
eighty = quoted "S\t-32768\t65535\t65535\t65535\t65535\t65535\t65535\t65535\t65535\t65535\t65535\t65535\t65535"

pub eighty-read : (length eighty ≡ 80) × (read_entry eighty ≡ offer (negsuc 32767) 65535 65535 10 (replicate 10 (mv 65535)))
unfolding read_entry fields_say read_sample first_from second_from cells_from read_command lacks fields_of number_to digits_to read_signed
eighty-read = (refl, refl)

-- as the reader takes an `S` line: the fields left from a place on; the cells behind the three other numbers; and what the fields say, the
-- first of them without its minus
pub fields-left : (left (quoted "S\t-7\t2981") 2 ≡ quoted "-7" ∷ quoted "2981" ∷ []) × (left (quoted "S\t-7\t2981") 9 ≡ [] ∷ [])
    × (left (quoted "S\t-7\t2981") 10 ≡ [])
unfolding left fields_of
fields-left = (refl, refl, refl)

pub cells-behind : (cells_of (7 ∷ 2981 ∷ 2992 ∷ 3001 ∷ 3002 ∷ []) ≡ mv 3001 ∷ mv 3002 ∷ []) × (cells_of (7 ∷ 2981 ∷ []) ≡ [])
unfolding cells_of
cells-behind = (refl, refl)

pub in-turn : (read_numbers true (quoted "7" ∷ quoted "2981" ∷ quoted "2992" ∷ quoted "3001" ∷ []) ≡ offer (negsuc 6) 2981 2992 1 (mv 3001 ∷ zeros 9))
    × (read_numbers false (quoted "7" ∷ quoted "2981" ∷ quoted "2992" ∷ []) ≡ offer (pos 7) 2981 2992 0 (zeros 10))
    × (read_numbers true (quoted "0" ∷ quoted "2981" ∷ quoted "2992" ∷ []) ≡ malformed)
    × (read_numbers false [] ≡ malformed)
unfolding read_numbers first_from second_from cells_from with_sign number_to digits_to
in-turn = (refl, refl, refl, refl)

-- the first field is one letter, and no other: none, the letters before `F` and `S`, a byte 0
pub letters-wrong : (read_entry (quoted "\t3") ≡ malformed) × (read_entry (quoted "\t1\t2\t3") ≡ malformed) × (read_entry (quoted "E\t3") ≡ malformed)
    × (read_entry (quoted "R\t1\t2\t3") ≡ malformed) × (read_entry (0 ∷ 9 ∷ 51 ∷ []) ≡ malformed) × (read_entry (quoted "G\t3") ≡ malformed)
    × (read_entry (quoted "T\t1\t2\t3") ≡ malformed)
unfolding read_entry fields_say read_sample first_from second_from cells_from read_command lacks fields_of number_to digits_to read_signed
letters-wrong = (refl, refl, refl, refl, refl, refl, refl)

-- read along from the second line on: its newline stands at 23, and it says what it says alone; from the first line, an `F` line, and from the
-- third, which does not end, nothing is found
abbrev three : List ℕ
three = quoted "F\t3\nS\t-7\t2981\t2992\t3001\nS\t1\t2\t3"

pub read-along : (read_ahead three 4 ≡ found 23 (offer (negsuc 6) 2981 2992 1 (mv 3001 ∷ zeros 9)))
    × (read_ahead three 0 ≡ None) × (read_ahead three 24 ≡ None) × (read_ahead three 34 ≡ None)
unfolding read_ahead before read_entry fields_say read_sample first_from second_from cells_from read_command lacks fields_of number_to digits_to read_signed
read-along = (refl, refl, refl, refl)

pub rests : (rest_of three 7 ≡ quoted "7\t2981\t2992\t3001") × (end_from three 7 ≡ 23) × (end_from three 24 ≡ 31)
unfolding before
rests = (refl, refl, refl)

-- every field of what is found
pub found-fields : (found_as 9 (offer (pos 1) 2 3 0 (zeros 10)) ≡ Some (record { end = 9; entry = offer (pos 1) 2 3 0 (zeros 10) }))
    × (found_as 9 (command 3) ≡ None)
    × (found_as 9 malformed ≡ None)
found-fields = (refl, refl, refl)
