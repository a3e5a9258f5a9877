-- Which cells want bleeding (document 01, "Bleeding"), from the sample and the protections after it.
-- Assumes nothing.
use Rattle.std.specs.Prelude.{Bool, not, ◌&&◌, ℕ, ◌+◌, leb, ltb, ℤ}
use Rattle.std.specs.Int.Signed.{le_z}

-- "The current is at least the charge detection current": currents are signed.
abbrev pub is_charging : ℤ → ℤ → Bool
is_charging detection current = le_z detection current

-- "A cell wants bleeding if the current is at least the charge detection current, no protection is raised, the cell is at
-- or above the floor, and it exceeds the lowest cell by more than the difference."
unfoldable pub wants : Bool → Bool → ℕ → ℕ → ℕ → ℕ → Bool
wants charges raised floor difference lowest cell =
    charges && not raised && leb floor cell && ltb (lowest + difference) cell
