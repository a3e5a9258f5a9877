-- The order of the walk as the code goes through it, and the cells of a pack.
-- Assumes nothing.
use Rattle.std.specs.Prelude.{◌≡◌, List, [], ◌∷◌, ℕ, ◌≤◌}
use Rattle.bleed.specs.Resting.Steps.{next_cell}

-- The list is the way from a, one cell after the other.
abbrev pub Way : ℕ → ℕ → List ℕ → Type 0
Way n a [] = Unit {0}
Way n a (k ∷ cells) = (k ≡ a) × Way n (next_cell n a) cells

-- What it says that cell k is one of a pack's n cells.
pub record InPack (n k : ℕ) : Type 0 where
  pub ten : n ≤ 10
  pub first : 1 ≤ k
  pub last : k ≤ n
