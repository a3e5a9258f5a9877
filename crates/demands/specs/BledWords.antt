-- What 0x46 showed after each accepted sample of a history, that it is what the history of wishes says was bled, and the four sentences
-- of the third demand about it.
-- Assumes nothing.
use Rattle.std.specs.Prelude.{◌≡◌, refl, Bool, true, false, drop, get_or}
use Rattle.std.proofs.Math.Path.{ap}
use Rattle.std.proofs.Common.{◌∙◌, lt-ltb}
use mathlib.Core.List.{List, [], ◌∷◌}
use Prim.Native.Nat.{ℕ, zero, suc, ◌-◌, ◌≤◌, ◌<◌}
use native.Mathlib.Omega.{arith}
use Rattle.std.specs.Int.Count.{ones, ones_in}
use Rattle.laws.specs.Tests.{clash}
use Rattle.laws.specs.Bits.{has_bit, has-zero}
use Rattle.laws.specs.Latest.{last_all, among}
use Rattle.sample.specs.declared.Sample.{Sample}
use Rattle.page_settings.specs.declared.Settings.{Settings}
use Rattle.page_settings.specs.Good.{Good}
use Rattle.bleed.specs.Walk.Walk.{has}
use Rattle.bleed.specs.Walk.History.{wants_cell}
use Rattle.bleed_wants.specs.Word.{holds_cell, in-none}
use Rattle.bleed.proofs.Walk.Demand.{fair-anywhere, never-over-R}
use Rattle.bleed.specs.Walk.Balance.{bled_word_after, bled_now_after}
use Rattle.bleed.proofs.Walk.Balance.{bled-bit, bled-few, bled-apart}
use Rattle.pack_state.specs.State.{by_page, wishes_after, bled_after, bleds_after}

-- The bled words of a history, one for each accepted sample: what 0x46 showed after it.
abbrev pub bled_words_after : Settings → List Sample → List ℕ
bled_words_after page [] = []
bled_words_after page (s ∷ h) = bled_after page (s ∷ h) ∷ bled_words_after page h

-- ---- two lists read alike

-- Two lists whose entries pass two tests alike.
abbrev Alike : {A B : Type 0} → (A → Bool) → (B → Bool) → List A → List B → Type 0
Alike p q [] [] = Unit {0}
Alike p q [] (y ∷ m) = ⊥
Alike p q (x ∷ l) [] = ⊥
Alike p q (x ∷ l) (y ∷ m) = (p x ≡ q y) × Alike p q l m

module _ {A B : Type 0} (p : A → Bool) (q : B → Bool) where
  alike-drop : (j : ℕ) (l : List A) (m : List B) → Alike p q l m → Alike p q (drop j l) (drop j m)
  alike-drop zero l m a = a
  alike-drop (suc j) [] [] a = tt
  alike-drop (suc j) [] (y ∷ m) a = absurd a
  alike-drop (suc j) (x ∷ l) [] a = absurd a
  alike-drop (suc j) (x ∷ l) (y ∷ m) a = alike-drop j l m a.1

  alike-among : (k : ℕ) (l : List A) (m : List B) → Alike p q l m → among k p l ≡ among k q m
  alike-among zero l m a = refl
  alike-among (suc k) [] [] a = refl
  alike-among (suc k) [] (y ∷ m) a = absurd a
  alike-among (suc k) (x ∷ l) [] a = absurd a
  alike-among (suc k) (x ∷ l) (y ∷ m) a = rw (a.0, alike-among k l m a.1)

  alike-last : (k : ℕ) (l : List A) (m : List B) → Alike p q l m → last_all k p l ≡ last_all k q m
  alike-last zero l m a = refl
  alike-last (suc k) [] [] a = refl
  alike-last (suc k) [] (y ∷ m) a = absurd a
  alike-last (suc k) (x ∷ l) [] a = absurd a
  alike-last (suc k) (x ∷ l) (y ∷ m) a = rw (a.0, alike-last k l m a.1)

-- ---- the words of an accepted page

module _ (page : Settings) (good : Good page) where
  some : 1 ≤ page.rules.n
  some = let g = good.n in omega arith

  ten : page.rules.n ≤ 10
  ten = good.n.1

  -- Cell k is in the bled word exactly if it was bled.
  word-has : (k : ℕ) → 1 ≤ k → (ws : List (ℕ → Bool)) → holds_cell (by_page page bled_word_after ws) k ≡ has k (by_page page bled_now_after ws)
  unfolding holds_cell
  word-has k first ws =
      let e : suc (k - 1) ≡ k = omega arith in
      rw (lt-ltb 0 k first) (by_page page bled-bit some ten ws (k - 1) ∙ ap (λ (i : ℕ). has i (by_page page bled_now_after ws)) e)

  words-alike : (k : ℕ) → 1 ≤ k → (h : List Sample) → Alike (λ w. holds_cell w k) (has k) (bled_words_after page h) (bleds_after page h)
  unfolding bled_after wishes_after
  words-alike k first [] = tt
  words-alike k first (s ∷ h) = (word-has k first (wishes_after page (s ∷ h)), words-alike k first h)

  later-alike : (k : ℕ) → 1 ≤ k → (j : ℕ) (h : List Sample)
      → Alike (λ w. holds_cell w k) (has k) (drop j (bled_words_after page h)) (drop j (bleds_after page h))
  later-alike k first j h = alike-drop (λ w. holds_cell w k) (has k) j (bled_words_after page h) (bleds_after page h) (words-alike k first h)

  -- So at the sample j before the latest.
  pub words-at : (k : ℕ) → 1 ≤ k → (j : ℕ) (h : List Sample)
      → holds_cell (get_or (bled_words_after page h) j 0) k ≡ has k (get_or (bleds_after page h) j [])
  unfolding bled_after wishes_after
  words-at k first j [] = in-none k
  words-at k first zero (s ∷ h) = word-has k first (wishes_after page (s ∷ h))
  words-at k first (suc j) (s ∷ h) = words-at k first j h

  -- At how many of m samples, j samples before the latest, cell k is in the word, and at how many it was bled.
  pub words-among : (k : ℕ) → 1 ≤ k → (m j : ℕ) (h : List Sample)
      → among m (λ w. holds_cell w k) (drop j (bled_words_after page h)) ≡ among m (has k) (drop j (bleds_after page h))
  words-among k first m j h =
      alike-among (λ w. holds_cell w k) (has k) m (drop j (bled_words_after page h)) (drop j (bleds_after page h)) (later-alike k first j h)

  -- Whether it is in each of those m words, and whether it was bled at each of those samples.
  pub words-last : (k : ℕ) → 1 ≤ k → (m j : ℕ) (h : List Sample)
      → last_all m (λ w. holds_cell w k) (drop j (bled_words_after page h)) ≡ last_all m (has k) (drop j (bleds_after page h))
  words-last k first m j h =
      alike-last (λ w. holds_cell w k) (has k) m (drop j (bled_words_after page h)) (drop j (bleds_after page h)) (later-alike k first j h)

  -- Cell k wants at n + 1 accepted samples in a row, j samples before the latest: it is bled in at least one of them.
  pub words-fair : (k : ℕ) → 1 ≤ k → k ≤ page.rules.n → (j : ℕ) (h : List Sample)
      → last_all (suc page.rules.n) (wants_cell k) (drop j (wishes_after page h)) ≡ true
      → 0 < among (suc page.rules.n) (λ w. holds_cell w k) (drop j (bled_words_after page h))
  words-fair k first last j h wanting =
      rw (words-among k first (suc page.rules.n) j h)
      (by_page page fair-anywhere good.k.0 good.r.0 k first last j (wishes_after page h) wanting)

  -- No cell is bled at more than R accepted samples in a row.
  pub words-run : (k : ℕ) → 1 ≤ k → (j : ℕ) (h : List Sample)
      → last_all (suc page.rules.r) (λ w. holds_cell w k) (drop j (bled_words_after page h)) ≡ false
  words-run k first j h = words-last k first (suc page.rules.r) j h ∙ by_page page never-over-R k j (wishes_after page h)

  -- Never are two neighbours bled at once: bits i and i + 1 stand for cells i + 1 and i + 2.
  pub words-apart : (i j : ℕ) (h : List Sample) → has_bit (get_or (bled_words_after page h) j 0) i ≡ true
      → has_bit (get_or (bled_words_after page h) j 0) (suc i) ≡ true → ⊥
  unfolding bled_after
  words-apart i j [] a b = clash a (has-zero i)
  words-apart i zero (s ∷ h) a b = by_page page bled-apart some ten (wishes_after page (s ∷ h)) i a b
  words-apart i (suc j) (s ∷ h) a b = words-apart i j h a b

-- Nor more than K cells: of any page.
pub words-few : (page : Settings) (j : ℕ) (h : List Sample) → ones (get_or (bled_words_after page h) j 0) ≤ page.rules.k
unfolding bled_after ones ones_in
words-few page j [] = omega arith
words-few page zero (s ∷ h) = by_page page bled-few (wishes_after page (s ∷ h))
words-few page (suc j) (s ∷ h) = words-few page j h
