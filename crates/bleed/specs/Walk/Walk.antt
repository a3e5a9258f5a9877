-- Which cells are bled at one sample (document 01, "Bleeding"). Cells are numbered from 1; a set of cells is a list of numbers.
-- Assumes nothing.
use Rattle.std.specs.Prelude.{◌≡◌, refl, Bool, true, false, not, cond, ◌&&◌, ◌||◌, List, [], ◌∷◌, ◌++◌, ℕ, zero, suc, ◌-◌, ltb, eqb, length}

-- Cell k is in the set.
abbrev pub has : ℕ → List ℕ → Bool
has k [] = false
has k (d ∷ l) = eqb k d || has k l

-- "Cells k and k + 1 are neighbours; 1 and n are not unless n = 2."
abbrev pub neighbours : ℕ → ℕ → Bool
neighbours k d = eqb (suc k) d || eqb (suc d) k

no-ring : neighbours 1 2 ∷ neighbours 2 1 ∷ neighbours 1 10 ∷ neighbours 10 1 ∷ neighbours 3 3 ∷ [] ≡ true ∷ true ∷ false ∷ false ∷ false ∷ []
no-ring = refl

-- A neighbour of cell k is in the set.
abbrev pub has_neighbour : ℕ → List ℕ → Bool
has_neighbour k [] = false
has_neighbour k (d ∷ l) = neighbours k d || has_neighbour k l

neighbours-found :
    has_neighbour 2 (5 ∷ 1 ∷ []) ∷ has_neighbour 2 (3 ∷ 5 ∷ []) ∷ has_neighbour 2 (5 ∷ 2 ∷ []) ∷ has_neighbour 2 (5 ∷ 4 ∷ []) ∷ [] ≡ true ∷ true ∷ false ∷ false ∷ []
neighbours-found = refl

-- The cells k, k + 1, and so on, j of them.
abbrev pub up_from : ℕ → ℕ → List ℕ
up_from k zero = []
up_from k (suc j) = k ∷ up_from (suc k) j

-- "Walk all cells once from the start cell, wrapping": from the start cell to n, then from 1 to the cell before it.
abbrev pub order : ℕ → ℕ → List ℕ
order n start = up_from start (suc n - start) ++ up_from 1 (start - 1)

-- "Take a cell if it wants bleeding, isn't resting, has no neighbour already taken, and fewer than K are taken."
abbrev pub takes : ℕ → (ℕ → Bool) → (ℕ → Bool) → ℕ → List ℕ → Bool
takes K wants rests k taken = wants k && not (rests k) && not (has_neighbour k taken) && ltb (length taken) K

-- The walk over the given cells with some taken already. What is not taken leaves no trace: "a resting or refused cell blocks nobody".
abbrev pub walk : ℕ → (ℕ → Bool) → (ℕ → Bool) → List ℕ → List ℕ → List ℕ
walk K wants rests [] taken = taken
walk K wants rests (k ∷ cells) taken = walk K wants rests cells (cond (takes K wants rests k taken) (k ∷ taken) taken)

-- The cells bled at a sample: those that the walk takes.
abbrev pub chosen : ℕ → ℕ → (ℕ → Bool) → (ℕ → Bool) → ℕ → List ℕ
chosen n K wants rests start = walk K wants rests (order n start) []

-- A resting cell does not shut out its neighbour: cell 2 is walked over first, and rests.
resting-blocks-nobody : chosen 3 2 (λ k. has k (2 ∷ 3 ∷ [])) (λ k. eqb k 2) 2 ≡ 3 ∷ []
resting-blocks-nobody = refl
