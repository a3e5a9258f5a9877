-- A list of cells as a word: bit k - 1 for cell k.
-- Assumes nothing.
use Rattle.std.specs.Prelude.{◌≡◌, refl, Bool, true, false, cond, List, [], ◌∷◌, ℕ, suc, ◌-◌, ◌≤◌, eqb, ltb, length}
use Rattle.std.proofs.Common.{ap, ◌∙◌, zero-le, add-one, arith, eqb-true, eq-eqb}
use Rattle.std.specs.Int.Count.{ones, ones_in}
use Rattle.std.proofs.lemmas.Bool.{eqb-false}
use Rattle.laws.specs.Tests.{by-test, or-left, or-right}
use Rattle.laws.specs.Bits.{has_bit, with_bit, with_bit_if, has-zero, has-same, has-other, ones-with, ones-new}
use Rattle.bleed.specs.Walk.Walk.{has}

-- The word with cell k in it where the test holds.
unfoldable pub with_cell_if : Bool → ℕ → ℕ → ℕ
with_cell_if b w k = cond (ltb 0 k) (with_bit_if b w (k - 1)) w

pub with-cell-not : (w k : ℕ) → with_cell_if false w k ≡ w
unfolding with_cell_if with_bit_if
with-cell-not w k = by-test (ltb 0 k) (λ t. rw t) (λ t. rw t)

-- The word of a set: "bit k - 1 for bled cell k".
abbrev pub cells_word : List ℕ → ℕ
cells_word [] = 0
cells_word (k ∷ l) = with_bit (cells_word l) (k - 1)

-- ---- the word of a list of cells

-- The cells of the set are among 1 to 16, those that have a bit.
abbrev pub Small : List ℕ → Type 0
Small l = (k : ℕ) → has k l ≡ true → (1 ≤ k) × (k ≤ 16)

head-small : (d : ℕ) (l : List ℕ) → Small (d ∷ l) → (1 ≤ d) × (d ≤ 16)
head-small d l s = s d (or-left (eqb d d) (has d l) (eq-eqb d d refl))

tail-small : (d : ℕ) (l : List ℕ) → Small (d ∷ l) → Small l
tail-small d l s k e = s k (or-right (eqb k d) (has k l) e)

-- Bit i is set exactly if cell i + 1 is in the set.
pub cells_word-bit : (l : List ℕ) (i : ℕ) → Small l → has_bit (cells_word l) i ≡ has (suc i) l
cells_word-bit [] i s = has-zero i
cells_word-bit (d ∷ l) i s =
    let q = head-small d l s in
    by-test (eqb (suc i) d)
    (λ t.
    let e : d - 1 ≡ i = let f = eqb-true (suc i) d t in omega arith in
    rw (t, e) (has-same (cells_word l) i (let f = eqb-true (suc i) d t in omega arith)))
    (λ t.
    let ne : i ≡ d - 1 → ⊥ = λ e. eqb-false (suc i) d t (omega arith) in
    rw t (has-other (cells_word l) (d - 1) i ne ∙ cells_word-bit l i (tail-small d l s)))

-- ---- how many cells it has

-- A list of cells stands once for each.
abbrev pub Once : List ℕ → Type 0
Once [] = Unit {0}
Once (k ∷ l) = (has k l ≡ false) × Once l

-- A word has as many set bits as its list has cells, if each stands once.
pub cells_word-ones : (l : List ℕ) → Small l → Once l → ones (cells_word l) ≡ length l
unfolding ones ones_in
cells_word-ones [] s o = refl
cells_word-ones (k ∷ l) s o =
    let q = head-small k l s in
    let i = cells_word-ones l (tail-small k l s) o.1 in
    let e : suc (k - 1) ≡ k = omega arith in
    let free : has_bit (cells_word l) (k - 1) ≡ false = cells_word-bit l (k - 1) (tail-small k l s) ∙ rw e o.0 in
    ones-new (cells_word l) (k - 1) (omega arith) free ∙ rw add-one (ap suc i)

-- and no more in any case.
pub cells_word-few : (l : List ℕ) → ones (cells_word l) ≤ length l
unfolding ones ones_in
cells_word-few [] = zero-le
cells_word-few (k ∷ l) = let i = cells_word-few l in let o = ones-with (cells_word l) (k - 1) in omega arith
