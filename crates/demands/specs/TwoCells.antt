-- With two cells two samples suffice: only one of two cells can exceed the lowest, so nobody else is in the way. This is a fact of
-- samples, not of wishes (bleed's Cases has two cells that wait longer over free wishes).
-- Assumes nothing.
use Rattle.std.specs.Prelude.{◌≡◌, refl, Ok, Err, Bool, true, false, not, ◌&&◌, List, [], ◌∷◌, ℕ, zero, suc, ◌+◌, ◌-◌, ◌≤◌, ◌<◌, leb, ltb, eqb, length, get_or, drop}
use Rattle.std.proofs.Common.{sym, ap, ◌∙◌, subst, arith, zero-lt-suc, not-suc-le-zero, mod-lt, ltb-true, eqb-true}
use Rattle.std.proofs.lemmas.Bool.{eqb-false}
use Rattle.laws.specs.Tests.{by-test, clash, and-left, and-right}
use Rattle.laws.specs.Latest.{last_all, among}
use Rattle.refusals.specs.Verdicts.{Verdict, Accepted}
use Rattle.sample.specs.declared.Sample.{Sample}
use Rattle.sample.specs.declared.Extremes.{Extremes}
use Rattle.sample.specs.declared.Found.{Found}
use Rattle.pack_refusals.specs.Samples.{sample_verdict, command_verdict, trimmed}
use Rattle.pack_refusals.specs.SampleLaws.{sample-exact}
use Rattle.pack.specs.Events.{Event, offer, command, accepts, with_event, past_of}
use Rattle.sample.specs.Cells.{no_volts, lowest, lowest-among, extremes_of, extremes-are}
use Rattle.page_settings.specs.declared.Settings.{Settings}
use Rattle.page_settings.specs.Good.{Good, accepted-good}
use Rattle.page_judge.specs.Page.{judged}
use Rattle.bleed.proofs.Walk.Demand.{bleds-drop}
use Rattle.pack.specs.Kept.{page_of, past_after}
use Rattle.pack.specs.Calls.{page-accepted}
use Rattle.bleed.specs.Walk.Walk.{has, chosen}
use Rattle.bleed.proofs.Walk.WalkLaws.{lone-bled}
use Rattle.bleed.specs.Walk.History.{wants_cell, resting, start_cell, bleds}
use Rattle.bleed_wants.specs.Wants.{wants}
use Rattle.bleed_wants.specs.Steps.{wishes, volts_of}
use Rattle.bleed_wants.specs.Word.{holds_cell}
use Rattle.pack_state.specs.State.{by_page, wish_at, wishes_after}
use Rattle.demands.specs.BledWords.{bled_words_after, words-among}

-- ---- two samples in a row

start-in : (n count : ℕ) → 0 < n → (1 ≤ start_cell n count) × (start_cell n count ≤ n)
start-in n count h = (omega arith, mod-lt count h)

-- Nobody else wants when k does.
abbrev Alone : ℕ → ℕ → List (ℕ → Bool) → Type 0
Alone n k [] = Unit {0}
Alone n k (w ∷ ws) = (w k ≡ true → (d : ℕ) → 1 ≤ d → d ≤ n → w d ≡ true → d ≡ k) × Alone n k ws

alone-drop : (n k j : ℕ) (ws : List (ℕ → Bool)) → Alone n k ws → Alone n k (drop j ws)
alone-drop n k zero ws a = a
alone-drop n k (suc j) [] a = tt
alone-drop n k (suc j) (w ∷ ws) a = alone-drop n k j ws a.1

-- Then two samples in a row suffice.
module _ (n K R k : ℕ) (some : 0 < K) (rests : 0 < R) (first : 1 ≤ k) (last : k ≤ n) where
  bled-before : (r : ℕ) (b : List ℕ) (bs : List (List ℕ)) → 0 < r → resting r (b ∷ bs) k ≡ true → has k b ≡ true
  bled-before zero b bs h e = absurd (not-suc-le-zero h)
  bled-before (suc r) b bs h e = and-left (has k b) (last_all r (has k) bs) e

  two : (ws : List (ℕ → Bool)) → Alone n k ws → last_all 2 (wants_cell k) ws ≡ true → 0 < among 2 (has k) (bleds n K R ws)
  two [] a e = clash refl (sym e)
  two (w ∷ []) a e = clash refl (sym (and-right (w k) false e))
  two (w ∷ v ∷ ws) a e =
      let b : List ℕ = chosen n K v (resting R (bleds n K R ws)) (start_cell n (length ws)) in
      let now : List ℕ = chosen n K w (resting R (b ∷ bleds n K R ws)) (start_cell n (suc (length ws))) in
      let want : w k ≡ true = and-left (w k) _ e in
      by-test (resting R (b ∷ bleds n K R ws) k)
      (λ u. let was : has k b ≡ true = bled-before R b (bleds n K R ws) rests u in
      by-test (has k now) (λ t. rw t (zero-lt-suc _)) (λ t. rw (t, was) (zero-lt-suc _)))
      (λ u.
      let start = start-in n (suc (length ws)) (omega arith) in
      let is : has k now ≡ true =
      lone-bled n K w (resting R (b ∷ bleds n K R ws)) (start_cell n (suc (length ws))) k some start.0 start.1 first last want (a.0 want) ∙ rw u in
      rw is (zero-lt-suc _))

-- ---- two cells of a sample

-- A cell that wants is above the lowest.
above-lowest : (charges raised : Bool) (floor difference low cell : ℕ) → wants charges raised floor difference low cell ≡ true → low < cell
unfolding wants
above-lowest charges raised floor difference low cell e =
    let h = ltb-true (low + difference) cell (and-right (charges && not raised && leb floor cell) (ltb (low + difference) cell) e) in
    omega arith

-- Of two cells only one wants.
one-wants : (page : Settings) (s : Sample) (h : List Sample) (k d : ℕ) → s.count ≡ 2 → 1 ≤ k → k ≤ 2 → 1 ≤ d → d ≤ 2
    → wish_at page s h k ≡ true → wish_at page s h d ≡ true → d ≡ k
unfolding wish_at wishes volts_of
one-wants page s h k d pair k1 k2 d1 d2 wk wd =
    let low : ℕ = (extremes_of s.cells s.count).lowest.volts.0 in
    let is : low ≡ (lowest s.cells 2).volts.0 = ap (λ (e : Extremes). e.lowest.volts.0) (extremes-are s.cells s.count (omega arith)) ∙ ap (λ (c : ℕ). (lowest s.cells c).volts.0) pair in
    let at = lowest-among s.cells 2 (omega arith) in
    let a : low < (get_or s.cells (k - 1) no_volts).0 = above-lowest _ _ _ _ low _ wk in
    let b : low < (get_or s.cells (d - 1) no_volts).0 = above-lowest _ _ _ _ low _ wd in
    let same : low ≡ (get_or s.cells at.place no_volts).0 = is ∙ ap (λ (f : Found). f.volts.0) at.is in
    let there : (i : ℕ) → at.place ≡ i → low ≡ (get_or s.cells i no_volts).0 = λ i e. same ∙ ap (λ (x : ℕ). (get_or s.cells x no_volts).0) e in
    let not-k : at.place ≡ k - 1 → ⊥ = λ e. let z = there (k - 1) e in omega arith in
    let not-d : at.place ≡ d - 1 → ⊥ = λ e. let z = there (d - 1) e in omega arith in
    let inside = at.within in
    by-test (eqb d k)
    (λ t. eqb-true d k t)
    (λ t. let ne = eqb-false d k t in absurd (three at.place k d inside k1 k2 d1 d2 ne not-k not-d))
  where
    -- Three numbers below two are not all different.
    three : (p a b : ℕ) → p < 2 → 1 ≤ a → a ≤ 2 → 1 ≤ b → b ≤ 2 → (b ≡ a → ⊥) → (p ≡ a - 1 → ⊥) → (p ≡ b - 1 → ⊥) → ⊥
    three zero a b h a1 a2 b1 b2 ne na nb = ne (let x : a ≡ 2 = omega arith in let y : b ≡ 2 = omega arith in omega arith)
    three (suc zero) a b h a1 a2 b1 b2 ne na nb = ne (let x : a ≡ 1 = omega arith in let y : b ≡ 1 = omega arith in omega arith)
    three (suc (suc p)) a b h a1 a2 b1 b2 ne na nb = absurd (omega arith)

-- Every sample of a history has n cells.
abbrev Counts : ℕ → List Sample → Type 0
Counts n [] = Unit {0}
Counts n (s ∷ h) = (s.count ≡ n) × Counts n h

accepts-is : (v : Verdict) → accepts v ≡ true → v ≡ Accepted
accepts-is (Ok done) e = refl
accepts-is (Err r) e = clash (sym refl) (sym e)

history-counts : (n : ℕ) (es : List Event) → Counts n (past_of n es).history
unfolding past_of with_event trimmed
history-counts n [] = tt
history-counts n (offer s ∷ es) =
    by-test (accepts (sample_verdict n s))
    (λ t. rw t (sample-exact n s (accepts-is (sample_verdict n s) t), history-counts n es))
    (λ t. rw t (history-counts n es))
history-counts n (command c ∷ es) =
    by-test (accepts (command_verdict c)) (λ t. rw t (history-counts n es)) (λ t. rw t (history-counts n es))

wishes-alone : (page : Settings) (k : ℕ) → 1 ≤ k → k ≤ 2 → (h : List Sample) → Counts 2 h → Alone 2 k (wishes_after page h)
unfolding wishes_after
wishes-alone page k first last [] c = tt
wishes-alone page k first last (s ∷ h) c =
    (λ wk d d1 d2 wd. one-wants page s h k d c.0 first last d1 d2 wk wd, wishes-alone page k first last h c.1)

-- A pack of two cells, after any events: a cell that wants at two accepted samples in a row, j samples before the latest, is bled in at
-- least one of them.
pub two-suffice : (bytes : List ℕ) → judged bytes ≡ Accepted → (page_of bytes).rules.n ≡ 2 → (es : List Event) (k : ℕ) → 1 ≤ k → k ≤ 2
    → (j : ℕ) → last_all 2 (wants_cell k) (drop j (wishes_after (page_of bytes) (past_after bytes es).history)) ≡ true
    → 0 < among 2 (λ w. holds_cell w k) (drop j (bled_words_after (page_of bytes) (past_after bytes es).history))
two-suffice bytes taken pair es k first last j wanting =
    let page = page_of bytes in
    let good : Good page = rw (page-accepted bytes taken) (accepted-good bytes taken) in
    let h = (past_after bytes es).history in
    let ws = wishes_after page h in
    let counts : Counts 2 h = subst (λ (n : ℕ). Counts n h) pair (history-counts page.rules.n es) in
    let alone : Alone page.rules.n k ws = subst (λ (n : ℕ). Alone n k ws) (sym pair) (wishes-alone page k first last h counts) in
    rw (words-among page good k first 2 j h, ← by_page page bleds-drop j ws)
    (by_page page two k good.k.0 good.r.0 first (omega arith) (drop j ws) (alone-drop page.rules.n k j ws alone) wanting)
