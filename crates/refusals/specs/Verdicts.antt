-- A verdict: accepted, or refused with a number and a word.
-- Assumes nothing.
use Rattle.std.specs.Prelude.{ℕ, Result, Ok, Err}
use Rattle.refusals.specs.declared.Refusal as declared

abbrev pub Verdict : Type 0
Verdict = Result (Unit {0}) declared.Refusal

abbrev pub Accepted : Verdict
Accepted = Ok tt

abbrev pub Refused : ℕ → ℕ → Verdict
Refused number word = Err (record { number = number; word = word })
