-- What the writer answers: how many bytes the sheet has, or the refusal's number and word.
-- Assumes nothing.
use Rattle.std.specs.Prelude.{ℕ, Result, Ok, Err}
use Rattle.refusals.specs.declared.Refusal.{Refusal}

abbrev pub Wrote : Type 0
Wrote = Result ℕ Refusal

abbrev pub Text : ℕ → Wrote
Text length = Ok length

abbrev pub Refused : ℕ → ℕ → Wrote
Refused number word = Err (record { number = number; word = word })
