-- What a pack keeps for bleeding from one sample to the next, as the history of wishes says it.
-- Assumes nothing.
use Rattle.std.specs.Prelude.{◌≡◌, Bool, List, [], map, ℕ, ◌≤◌, get_or}
use Rattle.laws.specs.Latest.{run}
use Rattle.bleed_wants.specs.Word.{holds_cell}
use Rattle.bleed.specs.Walk.Walk.{has, up_from}
use Rattle.bleed.specs.Walk.History.{bleds}
use Rattle.bleed.specs.Walk.Word.{cells_word}

module _ (n K R : ℕ) where
  -- For each of the cells 1 to 10, at how many of the latest samples in a row it was bled.
  unfoldable pub runs_after : List (ℕ → Bool) → List ℕ
  runs_after ws = map (λ k. run (has k) (bleds n K R ws)) (up_from 1 10)

  -- The cells bled at the latest sample; none before the first.
  abbrev pub bled_now_after : List (ℕ → Bool) → List ℕ
  bled_now_after ws = get_or (bleds n K R ws) 0 []

  -- Their word, "bit k - 1 for bled cell k".
  unfoldable pub bled_word_after : List (ℕ → Bool) → ℕ
  bled_word_after ws = cells_word (bled_now_after ws)

-- The word shows which of the cells 1 to n want.
abbrev pub Shows : ℕ → ℕ → (ℕ → Bool) → Type 0
Shows n want w = (k : ℕ) → 1 ≤ k → k ≤ n → holds_cell want k ≡ w k
