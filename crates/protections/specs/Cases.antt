-- Computed cases that pin the table and the directions against document 01.
-- Assumes nothing.
use Rattle.std.specs.Prelude.{◌≡◌, refl, Some, None, true, false, [], ◌∷◌, pos, negsuc}
use Rattle.protections.specs.declared.Quantity.TheVariants.{HighestCell, LowestCell, Current, Temperature1, Temperature2}
use Rattle.protections.specs.declared.Direction.TheVariants.{Above, Below}
use Rattle.protections.specs.Direction.{reaches, back_of, in_order}
use Rattle.protections.specs.Table.{row_with, row_at, table}

-- Over voltage looks at the highest cell and trips at or above; under voltage at the lowest, at or below, and has no mode.
over-voltage : row_at 0 ≡ row_with HighestCell Above (Some 21)
unfolding row_at table
over-voltage = refl

under-voltage : row_at 1 ≡ row_with LowestCell Below None
unfolding row_at table
under-voltage = refl

-- Charge current trips upward, discharge and short current downward: discharge is negative.
currents
    : (row_at 2 ∷ row_at 3 ∷ row_at 4 ∷ [])
    ≡ (row_with Current Above (Some 18) ∷ row_with Current Below (Some 19) ∷ row_with Current Below (Some 20) ∷ [])
unfolding row_at table
currents = refl

-- Both heat protections look at temperature 1, the second thermistor at temperature 2.
heats
    : (row_at 5 ∷ row_at 6 ∷ row_at 7 ∷ [])
    ≡ (row_with Temperature1 Above (Some 16) ∷ row_with Temperature1 Above (Some 17) ∷ row_with Temperature2 Above (Some 22) ∷ [])
unfolding row_at table
heats = refl

-- Both cold protections look at temperature 1, trip at or below, and have no mode.
colds : (row_at 8 ∷ row_at 9 ∷ []) ≡ (row_with Temperature1 Below None ∷ row_with Temperature1 Below None ∷ [])
unfolding row_at table
colds = refl

-- A level is reached at the level itself, in both directions.
at-the-level
    : (reaches Above (pos 4250) (pos 4250) ∷ reaches Above (pos 4250) (pos 4249) ∷ reaches Below (pos 2500) (pos 2500) ∷ reaches Below (pos 2500) (pos 2501) ∷ [])
    ≡ (true ∷ false ∷ true ∷ false ∷ [])
at-the-level = refl

-- Numbers are signed, to both ends: -32768 is below every level, 32767 above.
signed
    : (reaches Below (negsuc 32767) (negsuc 32767) ∷ reaches Below (negsuc 32767) (negsuc 32766) ∷ reaches Below (negsuc 99) (pos 5)
    ∷ reaches Above (pos 5) (negsuc 99) ∷ reaches Above (pos 32767) (pos 32767) ∷ [])
    ≡ (true ∷ false ∷ false ∷ false ∷ true ∷ [])
signed = refl

-- Equal levels stand in no order; release is less than trip for "at or above", greater for "at or below".
orders
    : (in_order Above (pos 5) (pos 5) ∷ in_order Below (pos 5) (pos 5) ∷ in_order Above (pos 5) (pos 4) ∷ in_order Below (pos 4) (pos 5)
    ∷ in_order Above (pos 4) (pos 5) ∷ in_order Below (negsuc 4) (negsuc 5) ∷ [])
    ≡ (false ∷ false ∷ true ∷ true ∷ false ∷ false ∷ [])
orders = refl

-- Release is the other way round.
ways : (back_of Above ∷ back_of Below ∷ []) ≡ (Below ∷ Above ∷ [])
ways = refl
