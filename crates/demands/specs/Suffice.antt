-- What the third demand says of the samples at which a cell waits.
-- Assumes nothing.
use Rattle.std.specs.Prelude.{◌≡◌, true, List, drop, ℕ, ◌≤◌, ◌<◌}
use Rattle.laws.specs.Latest.{last_all, among}
use Rattle.page_words.specs.Ranges.{word_at}
use Rattle.page_judge.specs.Page.{judged}
use Rattle.refusals.specs.Verdicts.{Accepted}
use Rattle.bleed.specs.Walk.History.{wants_cell}
use Rattle.bleed_wants.specs.Word.{holds_cell}
use Rattle.pack.specs.Events.{Event}
use Rattle.demands.specs.Shown.{wanted, shown_words}

-- In every pack of n cells m samples suffice: after a load of any accepted page and any events since, a cell k that wants bleeding at m
-- consecutive accepted samples, as document 01 says it, is bled in at least one of them: its bit, k - 1, stands in the balance shown at
-- that sample. The m samples lie anywhere in the history, j samples before its latest, and of the other cells nothing is asked.
abbrev pub Suffice : ℕ → ℕ → Type 0
Suffice n m =
    (bytes : List ℕ) → judged bytes ≡ Accepted → word_at bytes 1 ≡ n → (es : List Event) (k : ℕ) → 1 ≤ k → k ≤ n → (j : ℕ)
    → last_all m (wants_cell k) (drop j (wanted bytes es)) ≡ true
    → 0 < among m (λ w. holds_cell w k) (drop j (shown_words bytes es))
