-- Which cells are bled at each sample of a history. Of an accepted sample only counts which cells want bleeding: a history of
-- wishes is a list of these since the load, the latest first, and what is said of it holds for any page, samples and protections.
-- Assumes nothing.
use Rattle.std.specs.Prelude.{◌≡◌, refl, Bool, true, false, List, [], ◌∷◌, ℕ, suc, ◌%◌, length}
use Rattle.laws.specs.Latest.{last_all}
use Rattle.bleed.specs.Walk.Walk.{has, chosen}

-- Cell k wants bleeding.
abbrev pub wants_cell : ℕ → (ℕ → Bool) → Bool
wants_cell k w = w k

-- "A cell is resting if it was bled at each of the R accepted samples just before this one; with fewer than R before it since
-- the load, none rests." `before` has the cells bled at each earlier sample, the latest first.
abbrev pub resting : ℕ → List (List ℕ) → ℕ → Bool
resting R before k = last_all R (has k) before

-- "The start cell is 1 at the first sample after a load and goes on by one at each accepted sample, from n to 1." `count` is
-- the number of accepted samples before this one.
abbrev pub start_cell : ℕ → ℕ → ℕ
start_cell n count = suc (count % n)

-- The cells bled at each sample of a history of wishes, the latest first.
abbrev pub bleds : ℕ → ℕ → ℕ → List (ℕ → Bool) → List (List ℕ)
bleds n K R [] = []
bleds n K R (w ∷ ws) = chosen n K w (resting R (bleds n K R ws)) (start_cell n (length ws)) ∷ bleds n K R ws

-- The start cell moves though nothing was bled: cell 2 is the first to be asked at the second sample, cell 1 at the third.
start-moves : bleds 2 1 4 ((λ k. true) ∷ (λ k. true) ∷ (λ k. false) ∷ []) ≡ (1 ∷ []) ∷ (2 ∷ []) ∷ [] ∷ []
start-moves = refl
