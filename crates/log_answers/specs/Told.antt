-- What a line is answered with, before it is text: a decision, or the number of the refusal.
-- Assumes nothing.
use Rattle.std.specs.Prelude.{ℕ, Result, Ok, Err}
use Rattle.pack_shown.specs.declared.Decision.{Decision}

abbrev pub Told : Type 0
Told = Result Decision ℕ

abbrev pub Decided : Decision → Told
Decided d = Ok d

abbrev pub Refused : ℕ → Told
Refused number = Err number
