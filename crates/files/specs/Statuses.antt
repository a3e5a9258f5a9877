-- The status that a program ends with.
-- Assumes nothing.
use Rattle.std.specs.Prelude.{ℕ, Result, Ok, Err}
use Rattle.files.specs.declared.Stop.{Stop}
use Rattle.files.specs.declared.Stop.TheVariants.{Failed, Refused}

-- 0 where all was done, 1 where something could not be done, 3 where the page is refused.
abbrev pub status_of : Result Unit Stop → ℕ
status_of (Ok done) = 0
status_of (Err Failed) = 1
status_of (Err Refused) = 3
