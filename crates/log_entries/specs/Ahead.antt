-- An `S` line read along from a place of some bytes, before its newline was looked for: what is found.
-- Assumes nothing.
use Rattle.std.specs.Prelude.{Bool, cond, ◌&&◌, List, ℕ, ◌+◌, ltb, eqb, length, drop, get_or, Option, Some, None}
use Rattle.text_fields.specs.Finding.{before}
use Rattle.text_fields.specs.Fields.{fields_of}
use Rattle.log_entries.specs.declared.Kind.{Kind}
use Rattle.log_entries.specs.declared.Kind.TheVariants.{Offer, Command, Malformed}
use Rattle.log_entries.specs.declared.Entry.{Entry}
use Rattle.log_entries.specs.declared.Ahead.{Ahead}
use Rattle.log_entries.specs.Entry.{kind_of, read_entry}
use Rattle.log_entries.specs.InTurn.{behind}

-- What is left of a line from a place on, and where the line ends.
abbrev pub rest_of : List ℕ → ℕ → List ℕ
rest_of bytes at = before 10 (drop at bytes)

abbrev pub end_from : List ℕ → ℕ → ℕ
end_from bytes at = at + length (rest_of bytes at)

abbrev pub found : ℕ → Entry → Option Ahead
found end e = Some (record { end = end; entry = e })

-- A line that says a sample is found.
abbrev pub found_of : Kind → ℕ → Entry → Option Ahead
found_of Offer end e = found end e
found_of Command end e = None
found_of Malformed end e = None

abbrev pub found_as : ℕ → Entry → Option Ahead
found_as end e = found_of (kind_of e) end e

-- The same, if its newline is among the bytes.
abbrev pub found_in : List ℕ → ℕ → Entry → Option Ahead
found_in bytes end e = cond (ltb end (length bytes)) (found_as end e) None

-- What is found from a place on: the line that starts there, where it ends and says a sample.
unfoldable pub read_ahead : List ℕ → ℕ → Option Ahead
read_ahead bytes from = found_in bytes (end_from bytes from) (read_entry (rest_of bytes from))

-- The same, behind the first k numbers of the line.
abbrev pub ahead_behind : Bool → ℕ → List ℕ → List ℕ → ℕ → Option Ahead
ahead_behind below k numbers bytes at = found_in bytes (end_from bytes at) (behind below k numbers (fields_of (rest_of bytes at)))

-- Whether an `S` and a tab stand at a place.
abbrev pub starts_sample : List ℕ → ℕ → Bool
starts_sample bytes from = eqb (get_or bytes from 0) 83 && eqb (get_or bytes (from + 1) 0) 9
