-- What long waiting gives, over any history of wishes, the latest first: at the sample j before the latest, which had those behind it in
-- the list before it.
-- Assumes nothing.
use Rattle.std.specs.Prelude.{◌≡◌, refl, Bool, true, false, not, ◌&&◌, List, [], ◌∷◌, ◌⊎◌, ℕ, zero, suc, ◌+◌, ◌*◌, ◌≤◌, ◌<◌, eqb, ltb, length, drop, get_or}
use Rattle.std.proofs.Common.{sym, ap, ◌∙◌, inl, inr, ⊎_elim, zero-le, not-suc-le-zero, le_of_suc-le-suc, lt_of_lt_of_le, arith, eq-eqb, ne_eqb, ltb-true, ltb-false}
use Rattle.laws.specs.Tests.{by-test, clash, or-left, or-right}
use Rattle.laws.specs.Latest.{last_all, among, last_all-le, last_all-front, last_all-back, among-le, among-add}
use Rattle.bleed.specs.Walk.Walk.{has, has_neighbour, order, takes, walk, chosen}
use Rattle.bleed.specs.Walk.History.{wants_cell, resting, start_cell, bleds}
use Rattle.bleed.proofs.Walk.WalkLaws.{no-waste, own-turn}
use Rattle.bleed.specs.Walk.Word.{Once}
use Rattle.bleed.proofs.Walk.StepLaws.{order-once}
use Rattle.bleed.specs.Walk.Reached.{taken_before}
use Rattle.bleed.proofs.Walk.Reached.{bled-takes}
use Rattle.bleed.proofs.Walk.Demand.{bleds-drop, fair}
use Rattle.demands.specs.Shown.{nobody}

-- ---- what the walk takes, it takes once

walk-once : (K : ℕ) (wants rests : ℕ → Bool) (cells t : List ℕ) → Once cells → Once t → ((d : ℕ) → has d cells ≡ true → has d t ≡ false)
    → Once (walk K wants rests cells t)
walk-once K wants rests [] t oc ot new = ot
walk-once K wants rests (c ∷ cells) t oc ot new =
    let later : (d : ℕ) → has d cells ≡ true → has d t ≡ false = λ d h. new d (or-right (eqb d c) (has d cells) h) in
    by-test (takes K wants rests c t)
    (λ e. rw e (walk-once K wants rests cells (c ∷ t) oc.1 (new c (or-left (eqb c c) (has c cells) (eq-eqb c c refl)), ot)
    (λ d h. rw (ne_eqb d c (λ z. clash (rw z at h) oc.0)) (later d h))))
    (λ e. rw e (walk-once K wants rests cells t oc.1 ot later))

pub chosen-once : (n K : ℕ) (wants rests : ℕ → Bool) (start : ℕ) → 1 ≤ start → Once (chosen n K wants rests start)
chosen-once n K wants rests start h = walk-once K wants rests (order n start) [] (order-once n start h) tt (λ d e. refl)

module _ (n K R : ℕ) where
  -- ---- one sample of a history

  -- Who wanted at it, who rested, where the walk began, and who was bled.
  abbrev pub wanted_at : ℕ → List (ℕ → Bool) → ℕ → Bool
  wanted_at j ws = get_or ws j nobody

  abbrev pub rested_at : ℕ → List (ℕ → Bool) → ℕ → Bool
  rested_at j ws = resting R (drop (suc j) (bleds n K R ws))

  abbrev pub start_at : ℕ → List (ℕ → Bool) → ℕ
  start_at j ws = start_cell n (length (drop (suc j) ws))

  abbrev pub bled_at : ℕ → List (ℕ → Bool) → List ℕ
  bled_at j ws = get_or (bleds n K R ws) j []

  -- The cells that were taken when its walk reached cell k.
  abbrev pub taken_at : ℕ → List (ℕ → Bool) → ℕ → List ℕ
  taken_at j ws = taken_before n K (wanted_at j ws) (rested_at j ws) (start_at j ws)

  pub bled-at : (j : ℕ) (ws : List (ℕ → Bool)) → j < length ws → bled_at j ws ≡ chosen n K (wanted_at j ws) (rested_at j ws) (start_at j ws)
  bled-at j [] inside = absurd (not-suc-le-zero inside)
  bled-at zero (w ∷ ws) inside = refl
  bled-at (suc j) (w ∷ ws) inside = bled-at j ws (le_of_suc-le-suc inside)

  -- Where somebody wanted, there was a sample.
  pub wanted-inside : (j : ℕ) (ws : List (ℕ → Bool)) (k : ℕ) → wanted_at j ws k ≡ true → j < length ws
  wanted-inside j [] k e = clash refl (sym e)
  wanted-inside zero (w ∷ ws) k e = omega arith
  wanted-inside (suc j) (w ∷ ws) k e = let i = wanted-inside j ws k e in omega arith

  -- Who is bled wanted, and where there was no sample nobody is.
  none-outside : (j : ℕ) (ws : List (ℕ → Bool)) (k : ℕ) → length ws ≤ j → (wanted_at j ws k ≡ false) × (has k (bled_at j ws) ≡ false)
  none-outside j [] k h = (refl, refl)
  none-outside zero (w ∷ ws) k h = absurd (not-suc-le-zero h)
  none-outside (suc j) (w ∷ ws) k h = none-outside j ws k (le_of_suc-le-suc h)

  module _ (k : ℕ) (first : 1 ≤ k) (last : k ≤ n) where
    -- ---- "a wanting cell that isn't resting is left out only if a neighbour was taken or K were taken"

    module _ (j : ℕ) (ws : List (ℕ → Bool)) (wants : wanted_at j ws k ≡ true) (rests : rested_at j ws k ≡ false) (out : has k (bled_at j ws) ≡ false) where
      not-chosen : has k (chosen n K (wanted_at j ws) (rested_at j ws) (start_at j ws)) ≡ false
      not-chosen = sym (ap (has k) (bled-at j ws (wanted-inside j ws k wants))) ∙ out

      -- At the end of the walk,
      pub left-out : (has_neighbour k (bled_at j ws) ≡ true) ⊎ (K ≤ length (bled_at j ws))
      left-out =
          rw (bled-at j ws (wanted-inside j ws k wants))
          (⊎_elim (λ t. clash t not-chosen) (λ o. o)
          (no-waste n K (wanted_at j ws) (rested_at j ws) (start_at j ws) k (omega arith) first last (rw (wants, rests))))

      -- and already when it reached the cell.
      pub left-out-then : (has_neighbour k (taken_at j ws k) ≡ true) ⊎ (K ≤ length (taken_at j ws k))
      left-out-then =
          let not-taken : takes K (wanted_at j ws) (rested_at j ws) k (taken_at j ws k) ≡ false =
          sym (bled-takes n K (wanted_at j ws) (rested_at j ws) (start_at j ws) k (omega arith) first last) ∙ not-chosen in
          by-test (has_neighbour k (taken_at j ws k))
          (λ u. inl u)
          (λ u. by-test (ltb (length (taken_at j ws k)) K)
          (λ v. clash (rw (wants, rests, u, v)) not-taken)
          (λ v. inr (ltb-false (length (taken_at j ws k)) K v)))

    module _ (some : 0 < K) where
      -- ---- "at a cell's own start turn": it is bled exactly if it wants and does not rest
      pub own-start : (j : ℕ) (ws : List (ℕ → Bool)) → start_at j ws ≡ k → has k (bled_at j ws) ≡ wanted_at j ws k && not (rested_at j ws k)
      own-start j ws turn =
          by-test (ltb j (length ws))
          (λ t. rw (bled-at j ws (ltb-true j (length ws) t), turn) (own-turn n K (wanted_at j ws) (rested_at j ws) k first last some))
          (λ t. let o = none-outside j ws k (ltb-false j (length ws) t) in rw (o.1, o.0))

      -- ---- "a cell wanting at m × (n + 1) consecutive accepted samples is bled at no fewer than m of them, for every m from 0"

      -- Rounds of any more than n samples will do.
      module _ (limited : 0 < R) (round : ℕ) (more : n < round) where
        -- At the latest,
        often : (m : ℕ) (ws : List (ℕ → Bool)) → last_all (m * round) (wants_cell k) ws ≡ true → m ≤ among (m * round) (has k) (bleds n K R ws)
        often zero ws a = zero-le
        often (suc m) ws a =
            let a' : last_all (round + m * round) (wants_cell k) ws ≡ true = rw next-round at a in
            let those = last_all-le (suc n) round (wants_cell k) ws more (last_all-front round (m * round) (wants_cell k) ws a') in
            let once : 0 < among round (has k) (bleds n K R ws) =
            lt_of_lt_of_le (fair n K R some limited k first last ws those) (among-le (suc n) round (has k) (bleds n K R ws) more) in
            let others = often m (drop round ws) (last_all-back round (m * round) (wants_cell k) ws a') in
            let cut : among (m * round) (has k) (bleds n K R (drop round ws)) ≡ among (m * round) (has k) (drop round (bleds n K R ws)) =
            ap (among (m * round) (has k)) (bleds-drop n K R round ws) in
            rw (next-round, among-add round (m * round) (has k) (bleds n K R ws)) (omega (arith, once, others, cut))
          where
            next-round : suc m * round ≡ round + m * round
            next-round = omega arith

        -- and at any as many in a row, j samples before the latest.
        pub often-anywhere : (m j : ℕ) (ws : List (ℕ → Bool)) → last_all (m * round) (wants_cell k) (drop j ws) ≡ true
            → m ≤ among (m * round) (has k) (drop j (bleds n K R ws))
        often-anywhere m j ws a = rw (← (bleds-drop n K R j ws)) (often m (drop j ws) a)
