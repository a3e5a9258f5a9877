-- The answer to a command: it is sent, or refused with a number.
-- Assumes nothing.
use Rattle.std.specs.Prelude.{ℕ, Result, Ok, Err}

abbrev pub Replied : Type 0
Replied = Result (Unit {0}) ℕ

abbrev pub Sent : Replied
Sent = Ok tt

abbrev pub Refused : ℕ → Replied
Refused number = Err number
