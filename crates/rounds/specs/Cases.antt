-- Computed cases: document 01's three cells and four samples more, and what a walk has taken when it reaches a cell.
-- Assumes nothing.
use Rattle.std.specs.Prelude.{◌≡◌, refl, true, false, List, [], ◌∷◌, ◌++◌, map, reverse, drop}
use Rattle.laws.specs.Latest.{last_all, among}
use Rattle.bleed_wants.specs.Word.{holds_cell}
use Rattle.bleed.specs.Walk.History.{wants_cell}
use Rattle.bleed.specs.Walk.Reached.{taken_before}
use Rattle.pack.specs.Events.{Event}
use Rattle.demands.specs.Shown.{shown_words, wanted}
use Rattle.demands.specs.TooFew.{seven}
use Rattle.demands.specs.Written.{charged_high, page_for, computed}
use Rattle.rounds.specs.Rounds.{rests_at, starts_at, taken_then}

-- n 3, K 1, R 1. The wanting cells at samples 8 to 11 are {1,2}, {1,3}, {1,2}, {1,2}; the latest first.
abbrev pub eleven : List Event
eleven = reverse (map (charged_high 3) ((1 ∷ 2 ∷ []) ∷ (1 ∷ 3 ∷ []) ∷ (1 ∷ 2 ∷ []) ∷ (1 ∷ 2 ∷ []) ∷ [])) ++ seven

-- Bled at samples 3 to 11: 1, 3, 2, 3, 1, 2, 3, 1, 2.
pub eleven-shown : shown_words (page_for 3) eleven ≡ 2 ∷ 1 ∷ 4 ∷ 2 ∷ 1 ∷ 4 ∷ 2 ∷ 4 ∷ 1 ∷ 0 ∷ 0 ∷ []
unfolding computed
eleven-shown = refl

-- Cell 1 wants at the latest eight, 2 × (n + 1) of them, and is bled at two; cells 2 and 3 at three each.
pub eight-give-two :
    (last_all 8 (wants_cell 1) (wanted (page_for 3) eleven) ≡ true)
    × (map (λ k. among 8 (λ w. holds_cell w k) (shown_words (page_for 3) eleven)) (1 ∷ 2 ∷ 3 ∷ []) ≡ 2 ∷ 3 ∷ 3 ∷ [])
unfolding computed
eight-give-two = (refl, refl)

-- At samples 4 to 9, 2 × n of them, it wants too, and is bled at one.
pub six-give-one :
    (last_all 6 (wants_cell 1) (drop 2 (wanted (page_for 3) eleven)) ≡ true)
    × (among 6 (λ w. holds_cell w 1) (drop 2 (shown_words (page_for 3) eleven)) ≡ 1)
unfolding computed
six-give-one = (refl, refl)

-- m = 0: of no samples none, also where there is no sample at all.
pub none-give-none :
    (last_all 0 (wants_cell 1) (wanted (page_for 3) []) ≡ true) × (among 0 (λ w. holds_cell w 1) (shown_words (page_for 3) []) ≡ 0)
unfolding computed
none-give-none = (refl, refl)

-- One sample of these, j before the latest, so sample 11 - j: cell 1 rests at samples 4 and 8, and not at 5 and 9; the start cells of
-- samples 1 to 4 and 11; at samples 5 and 9 the cells 2 and 3 were taken when the walk reached cell 1, and at 7 none.
one-sample :
    (map (λ j. rests_at (page_for 3) eleven j 1) (7 ∷ 3 ∷ 6 ∷ 2 ∷ []) ≡ true ∷ true ∷ false ∷ false ∷ [])
    × (map (starts_at (page_for 3) eleven) (10 ∷ 9 ∷ 8 ∷ 7 ∷ 0 ∷ []) ≡ 1 ∷ 2 ∷ 3 ∷ 1 ∷ 2 ∷ [])
    × (map (λ j. taken_then (page_for 3) eleven j 1) (6 ∷ 2 ∷ 4 ∷ []) ≡ (2 ∷ []) ∷ (3 ∷ []) ∷ [] ∷ [])
unfolding computed
one-sample = (refl, refl, refl)

-- Five cells that all want, K 2, the walk from cell 4: nothing is taken when it reaches cell 4, cell 4 when it reaches cell 1, and 4 and 1
-- when it reaches cell 2, the latest taken first.
taken-by-then : map (taken_before 5 2 (λ k. true) (λ k. false) 4) (4 ∷ 1 ∷ 2 ∷ []) ≡ [] ∷ (4 ∷ []) ∷ (1 ∷ 4 ∷ []) ∷ []
taken-by-then = refl
