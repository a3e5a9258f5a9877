-- The ten protections: document 01's table row by row, and document 02's two for cold packs.
-- Assumes nothing.
use Rattle.std.specs.Prelude.{◌≡◌, refl, Option, Some, None, List, [], ◌∷◌, ℕ, ◌≤◌, ◌<◌, length, get_or}
use Rattle.std.proofs.Common.{ap, ⊎_elim, eq-or-lt_of_le}
use Prim.Native.String.{String}
use Rattle.std.proofs.Math.ListN.{get_or-eq_default}
use Rattle.protections.specs.declared.Row.{Row}
use Rattle.protections.specs.declared.Quantity.{Quantity}
use Rattle.protections.specs.declared.Quantity.TheVariants.{HighestCell, LowestCell, Current, Temperature1, Temperature2}
use Rattle.protections.specs.declared.Direction.{Direction}
use Rattle.protections.specs.declared.Direction.TheVariants.{Above, Below}

abbrev pub row_with : Quantity → Direction → Option ℕ → Row
row_with q d m = record { quantity = q; direction = d; mode = m }

-- A row with its name.
pub record Named : Type 0 where
  pub name : String
  pub row : Row

abbrev named : String → Quantity → Direction → Option ℕ → Named
named s q d m = record { name = s; row = row_with q d m }

abbrev last : Named
last = named "discharge cold" Temperature1 Below None

-- p is the place in this list. "Two more protections on temperature 1, tripping at or below: 8 for charge, 9 for discharge. They have no
-- mode number."
unfoldable pub table : List Named
table =
    named "over voltage" HighestCell Above (Some 0x15)
    ∷ named "under voltage" LowestCell Below None
    ∷ named "over charge current" Current Above (Some 0x12)
    ∷ named "over discharge current" Current Below (Some 0x13)
    ∷ named "short current" Current Below (Some 0x14)
    ∷ named "charge over heat" Temperature1 Above (Some 0x10)
    ∷ named "discharge over heat" Temperature1 Above (Some 0x11)
    ∷ named "second thermistor" Temperature2 Above (Some 0x16)
    ∷ named "charge cold" Temperature1 Below None
    ∷ last
    ∷ []

-- How many there are.
abbrev pub protections : ℕ
protections = 10

table-length : length table ≡ protections
unfolding table
table-length = refl

-- The row of protection p; a number past the table reads as the last row.
unfoldable pub row_at : ℕ → Row
unfolding table
row_at p = (get_or table p last).row

-- 8 and 9 are alike, so this is the row from 8 on.
pub row-past : (p : ℕ) → 8 ≤ p → row_at p ≡ last.row
unfolding row_at table
row-past p h =
    ⊎_elim
    (λ (e : 8 ≡ p). rw (← e))
    (λ (q : 8 < p). ⊎_elim
    (λ (e : 9 ≡ p). rw (← e))
    (λ (q : 9 < p). ap (λ (x : Named). x.row) (get_or-eq_default table last q))
    (eq-or-lt_of_le q))
    (eq-or-lt_of_le h)
