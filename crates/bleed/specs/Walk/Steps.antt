-- What the code works out at one sample, from the words of who wants and who rests.
-- Assumes nothing.
use Rattle.std.specs.Prelude.{◌≡◌, Bool, true, not, cond, ◌&&◌, ◌||◌, ℕ, zero, suc, ◌+◌, ◌-◌, ◌≤◌, leb, ltb}
use Rattle.std.specs.Int.Count.{ones}
use Rattle.laws.specs.Bits.{has_bit}
use Rattle.bleed_wants.specs.Word.{holds_cell}
use Rattle.bleed.specs.Resting.Steps.{next_cell}
use Rattle.bleed.specs.Walk.Walk.{chosen}
use Rattle.bleed.specs.Walk.Word.{with_cell_if, cells_word}

-- Cell k is one of the cells 1 to n, and they are ten at most.
unfoldable pub is_cell : ℕ → ℕ → Bool
is_cell n k = ltb 0 k && leb k n && leb n 10

-- The word of the walk's cells: which cells want and which rest are words too. A start that is no cell gives none.
unfoldable pub chosen_word : ℕ → ℕ → ℕ → ℕ → ℕ → ℕ
chosen_word n K want rest start = cond (is_cell n start) (cells_word (chosen n K (holds_cell want) (holds_cell rest) start)) 0

-- What is promised of the chosen word: it is the walk's, it has no more set bits than K, and no two neighbouring bits.
pub record Chosen (n K want rest start word : ℕ) : Type 0 where
  pub walked : word ≡ chosen_word n K want rest start
  pub few : ones word ≤ K
  pub apart : (i : ℕ) → has_bit word i ≡ true → has_bit word (i + 1) ≡ true → ⊥

-- ---- the walk, one cell after the other

-- A neighbour of cell k is taken: cell k - 1 has bit k - 2, cell k + 1 has bit k.
unfoldable pub beside_taken : ℕ → ℕ → Bool
beside_taken taken k = ltb 1 k && has_bit taken (k - 2) || has_bit taken k

unfoldable pub may_take : ℕ → ℕ → ℕ → ℕ → ℕ → Bool
may_take K want rest taken k = holds_cell want k && not (holds_cell rest k) && not (beside_taken taken k) && ltb (ones taken) K

unfoldable pub take_one : ℕ → ℕ → ℕ → ℕ → ℕ → ℕ
take_one K want rest taken k = with_cell_if (may_take K want rest taken k) taken k

-- The word after the next j cells, from cell k on.
unfoldable pub take_from : ℕ → ℕ → ℕ → ℕ → ℕ → ℕ → ℕ → ℕ
take_from zero n K want rest k taken = taken
take_from (suc j) n K want rest k taken = take_from j n K want rest (next_cell n k) (take_one K want rest taken k)
