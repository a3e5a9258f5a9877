-- What a pack keeps for bleeding from one sample to the next is what the history of wishes says: the theorem that one step of the
-- code's leads from what a history says to what the longer history says.
-- Assumes nothing.
use Rattle.std.specs.Prelude.{◌≡◌, Bool, true, eqb, ltb, get_or, replicate}
use Rattle.std.proofs.Math.Path.{refl, sym, ap, ap₂}
use Rattle.std.proofs.Common.{◌∙◌, mod-lt, mod-eq_of_lt, suc-add, add-suc, add-zero, le_of_suc-le-suc, not-suc-le-zero, add-one, eqb-true, ltb-true, ltb-false}
use mathlib.Core.List.{List, [], ◌∷◌, map}
use Prim.Native.Nat.{ℕ, zero, suc, ◌+◌, ◌-◌, ◌%◌, ◌≤◌, ◌<◌}
use Rattle.std.proofs.Math.Nat.{le_trans, mod-add-mod, mod_self}
use native.Mathlib.Omega.{arith}
use Rattle.std.specs.Int.Count.{ones}
use Rattle.std.proofs.Math.ListN.{length}
use Rattle.std.proofs.Math.Seq.{ext_get_or}
use Rattle.units.specs.declared.MilliVolts.{MilliVolts}
use Rattle.laws.specs.Tests.{by-test}
use Rattle.laws.specs.Bits.{has_bit, has-zero}
use Rattle.laws.specs.Each.{each-length, each-below}
use Rattle.laws.specs.Latest.{next_run, run-goes-on, run, last_all-run}
use Rattle.bleed_wants.specs.Word.{holds_cell, cells_passing, cells_passing-same, cells_passing-in}
use Rattle.bleed_wants.specs.Steps.{wishes, wanting_word}
use Rattle.units.specs.Cells.{ten-all}
use Rattle.bleed.specs.Resting.Steps.{next_cell, next_runs, cell_run_of, run_reached, resting_word}
use Rattle.bleed.specs.Resting.StepLaws.{runs-none, none-rest}
use Rattle.bleed.specs.Walk.Walk.{has, up_from, order}
use Rattle.bleed.proofs.Walk.WalkLaws.{walk-same, order-only, only-cells}
use Rattle.bleed.specs.Walk.History.{resting, start_cell, bleds}
use Rattle.bleed.proofs.Walk.Demand.{run-short, never-more, never-neighbours}
use Rattle.bleed.specs.Walk.Word.{cells_word, cells_word-bit, cells_word-few}
use Rattle.bleed.specs.Walk.Steps.{chosen_word}
use Rattle.bleed.proofs.Walk.StepLaws.{chosen-walked}
use Rattle.bleed.specs.Walk.InPack.{InPack}
use Rattle.bleed.specs.Walk.Balance.{runs_after, bled_now_after, bled_word_after, Shows}

-- What `wanting` answers shows which cells want.
pub wanting-shows : (n : ℕ) (charges raised : Bool) (floor difference lowest : ℕ) (cells : List MilliVolts) → n ≤ 10
    → Shows n (wanting_word n charges raised floor difference lowest cells) (wishes charges raised floor difference lowest cells)
unfolding wanting_word
wanting-shows n charges raised floor difference lowest cells ten k a b =
    rw (ten-all n ten) (cells_passing-in n k (wishes charges raised floor difference lowest cells) (omega arith) a b)

-- ---- the start cell

-- The start cell is a cell of the pack.
pub start-cell : (n count : ℕ) → 1 ≤ n → n ≤ 10 → InPack n (start_cell n count)
start-cell n count h t = record { ten = t; first = omega arith; last = mod-lt count h }

pub next-start-is : (n count : ℕ) → 1 ≤ n → next_cell n (start_cell n count) ≡ start_cell n (suc count)
unfolding next_cell
next-start-is n count h =
    let e : suc (count % n) % n ≡ suc count % n = simp add-one at (mod-add-mod count n 1) in
    let lt : count % n < n = mod-lt count h in
    by-test (ltb (suc (count % n)) n)
    (λ u. rw (u, add-one) (ap suc (sym (mod-eq_of_lt (ltb-true (suc (count % n)) n u)) ∙ e)))
    (λ u.
    let full : suc (count % n) ≡ n = let q = ltb-false (suc (count % n)) n u in omega arith in
    rw u (ap suc (sym (mod_self n) ∙ ap (λ (x : ℕ). x % n) (sym full) ∙ e)))

-- ---- the run counters

up-length : (a m : ℕ) (f : ℕ → ℕ) → length (map f (up_from a m)) ≡ m
up-length a zero f = refl
up-length a (suc m) f = ap suc (up-length (suc a) m f)

up-at : (a m i d : ℕ) (f : ℕ → ℕ) → i < m → get_or (map f (up_from a m)) i d ≡ f (a + i)
up-at a zero i d f h = absurd (not-suc-le-zero h)
up-at a (suc m) zero d f h = rw add-zero
up-at a (suc m) (suc i) d f h = up-at (suc a) m i d f (le_of_suc-le-suc h) ∙ ap f (suc-add a i ∙ sym (add-suc a i))

module _ (n K R : ℕ) where
  counter : (ws : List (ℕ → Bool)) (i : ℕ) → i < 10 → get_or (runs_after n K R ws) i 0 ≡ run (has (suc i)) (bleds n K R ws)
  unfolding runs_after
  counter ws i h = up-at 1 10 i 0 (λ k. run (has k) (bleds n K R ws)) h ∙ ap (λ (x : ℕ). run (has x) (bleds n K R ws)) (omega arith)

  pub runs-length : (ws : List (ℕ → Bool)) → length (runs_after n K R ws) ≡ 10
  unfolding runs_after
  runs-length ws = up-length 1 10 (λ k. run (has k) (bleds n K R ws))

  -- The run of a cell has reached R exactly if the cell rests by the history.
  pub run-reached-is : (ws : List (ℕ → Bool)) (k : ℕ) → 1 ≤ k → k ≤ 10 → run_reached R (runs_after n K R ws) k ≡ resting R (bleds n K R ws) k
  unfolding run_reached cell_run_of
  run-reached-is ws k a b =
      let e : suc (k - 1) ≡ k = omega arith in
      rw (counter ws (k - 1) (omega arith), e) (sym (last_all-run R (has k) (bleds n K R ws)))

  -- "Never more set bits than K",
  pub bled-few : (ws : List (ℕ → Bool)) → ones (bled_word_after n K R ws) ≤ K
  unfolding bled_word_after
  bled-few ws = le_trans (cells_word-few (bled_now_after n K R ws)) (never-more n K R 0 ws)

  -- one for each bled cell,
  pub bled-bit : 1 ≤ n → n ≤ 10 → (ws : List (ℕ → Bool)) (i : ℕ) → has_bit (bled_word_after n K R ws) i ≡ has (suc i) (bled_now_after n K R ws)
  unfolding bled_word_after
  bled-bit some ten [] i = has-zero i
  bled-bit some ten (w ∷ ws) i =
      let start = start-cell n (length ws) some ten in
      cells_word-bit (bled_now_after n K R (w ∷ ws)) i (λ k e.
      let q = only-cells n K w (resting R (bleds n K R ws)) (start_cell n (length ws)) k start.first start.last e in
      (q.0, omega arith))

  -- and no two neighbouring ones.
  pub bled-apart : 1 ≤ n → n ≤ 10 → (ws : List (ℕ → Bool)) (i : ℕ) → has_bit (bled_word_after n K R ws) i ≡ true
      → has_bit (bled_word_after n K R ws) (suc i) ≡ true → ⊥
  bled-apart some ten ws i p q =
      never-neighbours n K R (suc i) 0 ws (sym (bled-bit some ten ws i) ∙ p) (sym (bled-bit some ten ws (suc i)) ∙ q)

  module _ (some : 1 ≤ n) (ten : n ≤ 10) (w : ℕ → Bool) (ws : List (ℕ → Bool)) where
    -- The run counters of the longer history.
    pub runs-are : R < 255 → next_runs (bled_word_after n K R (w ∷ ws)) (runs_after n K R ws) ≡ runs_after n K R (w ∷ ws)
    unfolding next_runs
    runs-are short =
        let word : ℕ = bled_word_after n K R (w ∷ ws) in
        let long : length (runs_after n K R ws) ≡ 10 = runs-length ws in
        let stepped = each-length 0 (λ i r. next_run (has_bit word i) r) 10 (runs_after n K R ws) in
        ext_get_or 0 (next_runs word (runs_after n K R ws)) (runs_after n K R (w ∷ ws)) (stepped ∙ long ∙ sym (runs-length (w ∷ ws)))
        (λ i q.
        let i<10 : i < 10 = omega arith in
        each-below 0 (λ j r. next_run (has_bit word j) r) 10 (runs_after n K R ws) i (omega arith) i<10
        ∙ ap₂ next_run (bled-bit some ten (w ∷ ws) i) (counter ws i i<10)
        ∙ run-goes-on (has (suc i) (bled_now_after n K R (w ∷ ws))) (run (has (suc i)) (bleds n K R ws)) (let z = run-short n K R (suc i) ws in omega arith)
        ∙ sym (counter (w ∷ ws) i i<10))

  -- No run is left where no cell was bled at the latest sample.
  runs-idle : 1 ≤ n → n ≤ 10 → R < 255 → (ws : List (ℕ → Bool)) → bled_word_after n K R ws ≡ 0 → runs_after n K R ws ≡ replicate 10 0
  unfolding runs_after
  runs-idle some ten short [] e = refl
  runs-idle some ten short (w ∷ ws) e =
      sym (runs-are some ten w ws short)
      ∙ ap (λ (b : ℕ). next_runs b (runs_after n K R ws)) e
      ∙ runs-none (runs_after n K R ws) (runs-length ws)

  module _ (some : 1 ≤ n) (ten : n ≤ 10) (limited : 1 ≤ R) (short : R < 255) (ws : List (ℕ → Bool)) where
    -- Who rests by what was kept, `resting_word`, is who rests by the history, `resting`.
    pub resting-is : resting_word n R (bled_word_after n K R ws) (runs_after n K R ws) ≡ cells_passing n (resting R (bleds n K R ws))
    unfolding resting_word
    resting-is =
        let by-counters : cells_passing n (run_reached R (runs_after n K R ws)) ≡ cells_passing n (resting R (bleds n K R ws)) =
        cells_passing-same n _ _ (λ k a b. run-reached-is ws k a (omega arith)) in
        by-test (eqb (bled_word_after n K R ws) 0)
        (λ t. rw t (sym (ap (λ (l : List ℕ). cells_passing n (run_reached R l)) (runs-idle some ten short ws (eqb-true (bled_word_after n K R ws) 0 t)) ∙ none-rest n R limited) ∙ by-counters))
        (λ t. rw (t, ten-all n ten) by-counters)

    -- What is chosen from what was kept is what the history says.
    pub choose-is : (w : ℕ → Bool) (want : ℕ) → Shows n want w
        → chosen_word n K want (resting_word n R (bled_word_after n K R ws) (runs_after n K R ws)) (start_cell n (length ws)) ≡ bled_word_after n K R (w ∷ ws)
    unfolding bled_word_after
    choose-is w want shows =
        let start = start-cell n (length ws) some ten in
        let rest : ℕ = cells_passing n (resting R (bleds n K R ws)) in
        rw resting-is (chosen-walked n K want rest (start_cell n (length ws)) start
        ∙ ap cells_word (walk-same K (holds_cell want) (holds_cell rest) w (resting R (bleds n K R ws)) (order n (start_cell n (length ws))) []
        (λ k e.
        let q = order-only n (start_cell n (length ws)) k start.first start.last e in
        (shows k q.0 q.1, cells_passing-in n k (resting R (bleds n K R ws)) (omega arith) q.0 q.1))))
