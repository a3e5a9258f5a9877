-- What the laws of the walk say of a cell that is not taken.
-- Assumes nothing.
use Rattle.std.specs.Prelude.{◌≡◌, ◌⊎◌, true, List, ℕ, ◌≤◌, length}
use Rattle.bleed.specs.Walk.Walk.{has, has_neighbour}

-- Nothing is wasted on cell k: it is taken, or a neighbour is, or K cells are.
abbrev pub Settled : ℕ → ℕ → List ℕ → Type 0
Settled K k l = (has k l ≡ true) ⊎ ((has_neighbour k l ≡ true) ⊎ (K ≤ length l))
