-- The status of each way to end.
-- Assumes nothing.
use Rattle.std.specs.Prelude.{◌≡◌, refl, Ok, Err, ◌∷◌, []}
use Rattle.files.specs.declared.Stop.TheVariants.{Failed, Refused}
use Rattle.files.specs.Statuses.{status_of}

-- 0 where all was done, 1 where something could not be done, 3 where the page is refused.
statuses : (status_of (Ok tt) ∷ status_of (Err Failed) ∷ status_of (Err Refused) ∷ []) ≡ (0 ∷ 1 ∷ 3 ∷ [])
statuses = refl
