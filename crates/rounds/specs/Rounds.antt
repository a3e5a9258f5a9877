-- What long waiting gives, and one sample of the history: what the request's three sentences speak of. Their theorems stand in proofs/Rounds.
-- Assumes nothing.
use Rattle.std.specs.Prelude.{◌≡◌, Bool, true, List, ℕ, suc, ◌*◌, ◌≤◌, length, drop, get_or}
use Rattle.laws.specs.Latest.{last_all, among}
use Rattle.page_words.specs.Ranges.{word_at}
use Rattle.page_judge.specs.Page.{judged}
use Rattle.refusals.specs.Verdicts.{Accepted}
use Rattle.bleed_wants.specs.Word.{holds_cell}
use Rattle.bleed.specs.Walk.Walk.{neighbours}
use Rattle.bleed.specs.Walk.History.{wants_cell, start_cell}
use Rattle.bleed.specs.Walk.Reached.{taken_before}
use Rattle.pack.specs.Events.{Event}
use Rattle.demands.specs.Shown.{shown_words, samples, wanted, nobody}

-- In every pack of n cells m rounds of so many samples give m: after a load of any accepted page and any events since, a cell that wants
-- bleeding at m × round consecutive accepted samples is bled at no fewer than m of them: its bit stands in so many of the balances shown
-- at them. The samples lie anywhere in the history, j samples before its latest, and of the other cells nothing is asked.
abbrev pub Gives : ℕ → ℕ → Type 0
Gives n round =
    (bytes : List ℕ) → judged bytes ≡ Accepted → word_at bytes 1 ≡ n → (es : List Event) (k : ℕ) → 1 ≤ k → k ≤ n → (m j : ℕ)
    → last_all (m * round) (wants_cell k) (drop j (wanted bytes es)) ≡ true
    → m ≤ among (m * round) (λ w. holds_cell w k) (drop j (shown_words bytes es))

-- ==== one sample of the history

module _ (bytes : List ℕ) (es : List Event) (j : ℕ) where
  -- At the accepted sample j before the latest: who wanted, by document 01,
  abbrev pub wants_at : ℕ → Bool
  wants_at = get_or (wanted bytes es) j nobody

  -- who rested: "a cell is resting if it was bled at each of the R accepted samples just before this one; with fewer than R before it since
  -- the load, none rests", R being word 3,
  abbrev pub rests_at : ℕ → Bool
  rests_at k = last_all (word_at bytes 3) (λ w. holds_cell w k) (drop (suc j) (shown_words bytes es))

  -- the start cell: "1 at the first sample after a load and goes on by one at each accepted sample, from n to 1", n being word 1,
  abbrev pub starts_at : ℕ
  starts_at = start_cell (word_at bytes 1) (length (drop (suc j) (samples bytes es)))

  -- the balance that was shown,
  abbrev pub balance_at : ℕ
  balance_at = get_or (shown_words bytes es) j 0

  -- and the cells that were taken when the walk reached cell k. K is word 2.
  abbrev pub taken_then : ℕ → List ℕ
  taken_then = taken_before (word_at bytes 1) (word_at bytes 2) wants_at rests_at starts_at

-- A neighbour of cell k has its bit in the balance shown at that sample.
abbrev pub NeighbourBled : List ℕ → List Event → ℕ → ℕ → Type 0
NeighbourBled bytes es j k = (d : ℕ) × (neighbours k d ≡ true) × (holds_cell (balance_at bytes es j) d ≡ true)
