-- What a reader hands out: a command and its word, or the number that it is refused with, or nothing.
-- Assumes nothing.
use Rattle.std.specs.Prelude.{ℕ, Option, Some, None, Result, Ok, Err}
use Rattle.bus_wire.specs.declared.Record.{Record}

abbrev pub Handed : Type 0
Handed = Option (Result Record ℕ)

abbrev pub Word : ℕ → ℕ → Handed
Word command word = Some (Ok (record { command = command; word = word }))

abbrev pub Refused : ℕ → Handed
Refused number = Some (Err number)

abbrev pub Nothing : Handed
Nothing = None
