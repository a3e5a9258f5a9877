-- The third demand, over any history of wishes: a cell that wants at n + 1 accepted samples in a row is bled at one of them,
-- no cell is bled at more than R in a row, never two neighbours, never more than K cells.
-- Assumes nothing.
use Rattle.std.specs.Prelude.{◌≡◌, refl, Bool, true, false, not, cond, List, [], ◌∷◌, ℕ, zero, suc, ◌+◌, ◌-◌, ◌*◌, ◌/◌, ◌%◌, ◌≤◌, ◌<◌, length, drop, get_or}
use Rattle.std.proofs.Common.{sym, ◌∙◌, zero-le, suc-le-suc, arith, div-add-mod', mod-lt, mod-eq_of_lt, lt_of_lt_of_le, zero-lt-suc, not-suc-le-zero, length-drop, leb-false}
use Rattle.std.proofs.Math.Nat.{mul-add-mod_self_right}
use Rattle.std.proofs.lemmas.Bool.{not-true}
use Rattle.laws.specs.Tests.{by-test, clash, and-left, and-right}
use Rattle.laws.specs.Latest.{last_all, run, among, last_all-run, last_all-le, last_all-length, among-le}
use Rattle.bleed.specs.Walk.Walk.{has, chosen}
use Rattle.bleed.specs.Walk.History.{wants_cell, resting, start_cell, bleds}
use Rattle.bleed.proofs.Walk.WalkLaws.{at-most-K, no-neighbours, only-wanting, own-turn}

no-less : (b : Bool) (x : ℕ) → x ≤ cond b (suc x) x
no-less true x = omega arith
no-less false x = omega arith

module _ (n K R : ℕ) where
  -- What was bled up to an earlier sample does not depend on what came later.
  pub bleds-drop : (j : ℕ) (ws : List (ℕ → Bool)) → bleds n K R (drop j ws) ≡ drop j (bleds n K R ws)
  bleds-drop zero ws = refl
  bleds-drop (suc j) [] = refl
  bleds-drop (suc j) (w ∷ ws) = bleds-drop j ws

  -- "Never are two neighbours bled at once," j samples before the latest,
  pub never-neighbours : (k j : ℕ) (ws : List (ℕ → Bool)) → has k (get_or (bleds n K R ws) j []) ≡ true
      → has (suc k) (get_or (bleds n K R ws) j []) ≡ true → ⊥
  never-neighbours k j [] h g = clash refl (sym h)
  never-neighbours k zero (w ∷ ws) h g = no-neighbours n K w (resting R (bleds n K R ws)) (start_cell n (length ws)) k h g
  never-neighbours k (suc j) (w ∷ ws) h g = never-neighbours k j ws h g

  -- "nor more than K cells."
  pub never-more : (j : ℕ) (ws : List (ℕ → Bool)) → length (get_or (bleds n K R ws) j []) ≤ K
  never-more j [] = zero-le
  never-more zero (w ∷ ws) = at-most-K n K w (resting R (bleds n K R ws)) (start_cell n (length ws))
  never-more (suc j) (w ∷ ws) = never-more j ws

  -- "No cell is bled at more than R accepted samples in a row": not at the latest R + 1,
  pub at-most-R : (k : ℕ) (ws : List (ℕ → Bool)) → last_all (suc R) (has k) (bleds n K R ws) ≡ false
  at-most-R k [] = refl
  at-most-R k (w ∷ ws) =
      by-test (last_all (suc R) (has k) (bleds n K R (w ∷ ws)))
      (λ u.
      let b : List ℕ = chosen n K w (resting R (bleds n K R ws)) (start_cell n (length ws)) in
      let r : resting R (bleds n K R ws) k ≡ true = and-right (has k b) (resting R (bleds n K R ws) k) u in
      let o = only-wanting n K w (resting R (bleds n K R ws)) (start_cell n (length ws)) k (and-left (has k b) _ u) in
      clash r (not-true (resting R (bleds n K R ws) k) (and-right (w k) (not (resting R (bleds n K R ws) k)) o)))
      (λ u. u)

  -- and not at any R + 1 before.
  pub never-over-R : (k j : ℕ) (ws : List (ℕ → Bool)) → last_all (suc R) (has k) (drop j (bleds n K R ws)) ≡ false
  never-over-R k j ws = rw (← (bleds-drop j ws)) (at-most-R k (drop j ws))

  -- A run of bled samples is never longer than R.
  pub run-short : (k : ℕ) (ws : List (ℕ → Bool)) → run (has k) (bleds n K R ws) ≤ R
  run-short k ws =
      let s = leb-false (suc R) (run (has k) (bleds n K R ws)) (sym (last_all-run (suc R) (has k) (bleds n K R ws)) ∙ at-most-R k ws) in
      omega arith

  module _ (some : 0 < K) (rests : 0 < R) (k : ℕ) (first : 1 ≤ k) (last : k ≤ n) where
    not-yet : (r : ℕ) (b : List ℕ) (bs : List (List ℕ)) → 0 < r → has k b ≡ false → resting r (b ∷ bs) k ≡ false
    not-yet zero b bs h e = absurd (not-suc-le-zero h)
    not-yet (suc r) b bs h e = rw e

    own : (w : ℕ → Bool) (b : List ℕ) (bs : List (List ℕ)) (s : ℕ) → w k ≡ true → s ≡ k → has k b ≡ false
        → has k (chosen n K w (resting R (b ∷ bs)) s) ≡ true
    own w b bs s u e z = rw e (own-turn n K w (resting R (b ∷ bs)) k first last some ∙ rw (u, not-yet R b bs rests z))

    -- i samples before the latest the start cell is k, and k wants there, one sample earlier and at all since: it is bled there, or at the sample before.
    own-start : (i : ℕ) (ws : List (ℕ → Bool)) → last_all (suc (suc i)) (wants_cell k) ws ≡ true → start_cell n (length (drop (suc i) ws)) ≡ k
        → 0 < among (suc (suc i)) (has k) (bleds n K R ws)
    own-start i [] a e = clash refl (sym a)
    own-start zero (w ∷ []) a e = clash refl (sym (and-right (w k) false a))
    own-start zero (w ∷ w' ∷ ws) a e =
        let b : List ℕ = chosen n K w' (resting R (bleds n K R ws)) (start_cell n (length ws)) in
        by-test (has k b)
        (λ u. lt_of_lt_of_le (rw u (zero-lt-suc 0)) (no-less (has k (chosen n K w (resting R (b ∷ bleds n K R ws)) (start_cell n (suc (length ws))))) (cond (has k b) 1 0)))
        (λ u. rw (own w b (bleds n K R ws) (start_cell n (suc (length ws))) (and-left (w k) _ a) e u) (zero-lt-suc _))
    own-start (suc i) (w ∷ ws) a e =
        lt_of_lt_of_le
        (own-start i ws (and-right (w k) _ a) e)
        (no-less (has k (chosen n K w (resting R (bleds n K R ws)) (start_cell n (length ws)))) (among (suc (suc i)) (has k) (bleds n K R ws)))

    -- "A cell that wants bleeding at n + 1 consecutive accepted samples is bled in at least one of them, whatever the other
    -- cells do": at the latest n + 1,
    pub fair : (ws : List (ℕ → Bool)) → last_all (suc n) (wants_cell k) ws ≡ true → 0 < among (suc n) (has k) (bleds n K R ws)
    fair ws a =
        let count : ℕ = length ws in
        let long : suc n ≤ count = last_all-length (suc n) (wants_cell k) ws a in
        let x : ℕ = count - k in
        let i : ℕ = x % n in
        let i<n : i < n = mod-lt x (omega arith) in
        let q : x / n * n + i ≡ x = div-add-mod' x n in
        let left : count - suc i ≡ x / n * n + (k - 1) = omega arith in
        let turns : start_cell n (length (drop (suc i) ws)) ≡ k =
        rw (length-drop, left, mul-add-mod_self_right (x / n) n (k - 1), mod-eq_of_lt {n = k - 1} {m = n} (omega arith)) (omega arith) in
        lt_of_lt_of_le
        (own-start i ws (last_all-le (suc (suc i)) (suc n) (wants_cell k) ws (suc-le-suc i<n) a) turns)
        (among-le (suc (suc i)) (suc n) (has k) (bleds n K R ws) (suc-le-suc i<n))

    -- and at any n + 1 in a row, j samples before the latest.
    pub fair-anywhere : (j : ℕ) (ws : List (ℕ → Bool)) → last_all (suc n) (wants_cell k) (drop j ws) ≡ true
        → 0 < among (suc n) (has k) (drop j (bleds n K R ws))
    fair-anywhere j ws a = rw (← (bleds-drop j ws)) (fair (drop j ws) a)
