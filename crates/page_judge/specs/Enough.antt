-- "There is no other reason to refuse": a page of its length, with its mark and its check byte, each word of which is right by itself (a trip word
-- with the release word behind it), is accepted. No word is held against any other.
-- Assumes nothing.
use Rattle.std.specs.Prelude.{◌≡◌, Bool, false, List, eqb, length, get_or, take}
use Rattle.std.proofs.Math.Path.{refl, subst}
use Rattle.std.proofs.Common.{sym, ap, ◌∙◌, zero-add}
use Rattle.std.proofs.Math.Bool.{true}
use Prim.Native.Nat.{ℕ, zero, suc, ◌+◌, ◌*◌, ◌≤◌, ◌<◌}
use native.Mathlib.Omega.{arith}
use borrow.Author.Tests.{le-leb, eq-eqb}
use Rattle.laws.specs.Tests.{by-test}
use Rattle.laws.specs.Numbered.{list_from}
use Rattle.crc.specs.CheckByte.{check_byte}
use Rattle.protections.specs.Direction.{in_order}
use Rattle.protections.specs.Table.{row_at}
use Rattle.page_words.specs.Ranges.{word_at, within, level_fits, level_of}
use Rattle.page_faults.specs.Kinds.{layout_of, bytes_of, check_at, kind_of, both}
use Rattle.page_faults.specs.Met.{level_met, order_met, on_row, kind_meets, meets}
use Rattle.page_faults.specs.declared.Layout.{Layout}
use Rattle.page_faults.specs.declared.Kind.{Kind}
use Rattle.page_faults.specs.declared.Kind.TheVariants.{Mark, Setting, Reserved, Trip, Release, Limit, Last, Outside}
use Rattle.refusals.specs.Verdicts.{Accepted}
use Rattle.page_judge.specs.Page.{read_backwards, judged}
use Rattle.page_judge.specs.Walk.{lowest_from, lowest_word, faults_of, starts, judged-is}

module _ (b : List ℕ) where
  -- Word i is right by what it is.
  abbrev pub Right : Kind → ℕ → Type 0
  Right Mark i = Unit {0}
  Right (Setting low high) i = (low ≤ word_at b i) × (word_at b i ≤ high)
  Right Reserved i = word_at b i ≡ 0
  Right (Trip p) i =
      (level_fits (row_at p.0).quantity (word_at b i) ≡ true)
      × (in_order (row_at p.0).direction (level_of (row_at p.0).quantity (word_at b i)) (level_of (row_at p.0).quantity (word_at b (i + 1))) ≡ true)
  Right (Release p) i = level_fits (row_at p.0).quantity (word_at b i) ≡ true
  Right (Limit low high) i = (low ≤ word_at b i) × (word_at b i ≤ high)
  Right Last i = get_or b (2 * i) 0 ≡ 0
  Right Outside i = Unit {0}

  on : (number row : ℕ) (met : Bool) → met ≡ true → on_row number row met ≡ true
  unfolding on_row
  on number row met e = by-test (eqb row number) (λ t. rw (t, e)) (λ t. rw t)

  inside : (low high x : ℕ) → (low ≤ x) × (x ≤ high) → within low high x ≡ true
  unfolding within
  inside low high x h = rw (le-leb low x h.0, le-leb x high h.1)

  right-meets : (k : Kind) (row i : ℕ) → Right k i → kind_meets k row b i ≡ true
  unfolding kind_meets level_met order_met
  right-meets Mark row i f = refl
  right-meets (Setting low high) row i f = on 6 row _ (inside low high (word_at b i) f)
  right-meets Reserved row i f = on 5 row _ (eq-eqb _ _ f)
  right-meets (Trip p) row i f = by-test (eqb row 8) (λ t. rw t f.1) (λ t. rw t (on 7 row _ f.0))
  right-meets (Release p) row i f = on 7 row _ f
  right-meets (Limit low high) row i f = on 7 row _ (inside low high (word_at b i) f)
  right-meets Last row i f = on 5 row _ (eq-eqb _ _ f)
  right-meets Outside row i f = refl

  module _ (l : Layout) (right : (i : ℕ) → i ≤ l.last → Right (kind_of l i) i) where
    none-from : (row i k : ℕ) → ((j : ℕ) → j < k → meets l row b (i + j) ≡ true) → lowest_from l row b i k ≡ Accepted
    unfolding lowest_from list_from
    none-from row i zero f = refl
    none-from row i (suc k) f =
        let here : meets l row b i ≡ true = let z : i + 0 ≡ i = omega arith in subst (λ (x : ℕ). meets l row b x ≡ true) z (f 0 (omega arith)) in
        rw here (none-from row (suc i) k (λ j h. let z : i + suc j ≡ suc i + j = omega arith in subst (λ (x : ℕ). meets l row b x ≡ true) z (f (suc j) (omega arith))))

    row-none : (row : ℕ) → lowest_word l row b ≡ Accepted
    unfolding meets
    row-none row =
        starts l row b
        ∙ none-from row 0 (suc l.last) (λ j h. subst (λ (x : ℕ). meets l row b x ≡ true) (sym (zero-add j)) (right-meets (kind_of l j) row j (right j (omega arith))))

    faults-none : faults_of l b ≡ Accepted
    unfolding faults_of
    faults-none = rw (row-none 5, row-none 6, row-none 7, row-none 8)

  pub right-accepted : let l : Layout = layout_of (length b) in
      length b ≡ bytes_of l → word_at b 0 ≡ l.mark → get_or b (check_at l) 0 ≡ check_byte (take (check_at l) b)
      → ((i : ℕ) → i ≤ l.last → Right (kind_of l i) i) → judged b ≡ Accepted
  right-accepted size mark check right =
      let l : Layout = layout_of (length b) in
      let front : read_backwards (word_at b 0) ≡ false = ap read_backwards mark ∙ both (λ (m : Layout). read_backwards m.mark ≡ false) refl refl (length b) in
      judged-is b
      ∙ rw (
        eq-eqb (length b) (bytes_of l) size,
        front,
        eq-eqb (word_at b 0) l.mark mark,
        eq-eqb (get_or b (check_at l) 0) (check_byte (take (check_at l) b)) check,
      ) (faults-none l right)
