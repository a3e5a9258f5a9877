-- The code's walk over words is document 01's walk over cells.
-- Assumes nothing.
use Rattle.std.specs.Prelude.{◌≡◌, false, cond, ◌&&◌, ◌||◌, ◌⊎◌, ℕ, zero, suc, ◌+◌, ◌-◌, ◌≤◌, ◌<◌, leb, ltb, eqb, length}
use Rattle.std.proofs.Math.Path.{refl}
use Rattle.std.proofs.Common.{sym, ap, ◌∙◌, inl, inr, ⊎_elim, zero-le, not-suc-le-zero, zero-lt-suc, le_trans, add-one, arith, length-append}
use Rattle.std.proofs.Math.Bool.{Bool, true}
use mathlib.Core.List.{List, [], ◌∷◌, ◌++◌}
use Rattle.std.specs.Int.Count.{ones, ones_in}
use borrow.Author.Tests.{lt-ltb, le-ltb, ltb-true, ltb-false, le-leb, leb-true, eq-eqb, ne_eqb, eqb-true}
use Rattle.laws.specs.Tests.{by-test, by-order, clash, test-ext, and-left, and-right, or-left, or-right, or-cases}
use Rattle.laws.specs.Bits.{has_bit, with_bit_if, has-zero}
use Rattle.bleed_wants.specs.Word.{holds_cell, in-none}
use Rattle.bleed.specs.Resting.Steps.{next_cell}
use Rattle.bleed.specs.Walk.Walk.{has, neighbours, has_neighbour, up_from, order, takes, walk, chosen}
use Rattle.bleed.proofs.Walk.WalkLaws.{neighbour-of, has-append, up_from-only, order-only, at-most-K, no-neighbours, only-cells, walk-none}
use Rattle.bleed.specs.Walk.Word.{with_cell_if, cells_word, Small, Once, cells_word-bit, cells_word-ones, cells_word-few}
use Rattle.bleed.specs.Walk.Steps.{is_cell, chosen_word, Chosen, beside_taken, may_take, take_one, take_from}
use Rattle.bleed.specs.Walk.InPack.{Way, InPack}

-- ---- the order of the walk is the next cell, again and again

low-way : (n a m : ℕ) → a + m ≤ suc n → Way n a (up_from a m)
unfolding next_cell
low-way n a zero h = tt
low-way n a (suc m) h = (
  refl,
  by-test (ltb a n)
      (λ t. rw (t, add-one) (low-way n (suc a) m (omega arith)))
      (λ t. let z : m ≡ 0 = let q = ltb-false a n t in omega arith in rw z tt),
)

high-way : (n a m : ℕ) (l : List ℕ) → 0 < m → a + m ≡ suc n → Way n 1 l → Way n a (up_from a m ++ l)
unfolding next_cell
high-way n a zero l h e w = absurd (not-suc-le-zero h)
high-way n a (suc zero) l h e w = (refl, rw (le-ltb a n (omega arith)) w)
high-way n a (suc (suc m)) l h e w = (refl, rw (lt-ltb a n (omega arith), add-one) (high-way n (suc a) (suc m) l (zero-lt-suc m) (omega arith) w))

pub order-way : (n s : ℕ) → 1 ≤ s → s ≤ n → Way n s (order n s)
order-way n s a b = high-way n s (suc n - s) (up_from 1 (s - 1)) (omega arith) (omega arith) (low-way n 1 (s - 1) (omega arith))

length-up : (a m : ℕ) → length (up_from a m) ≡ m
length-up a zero = refl
length-up a (suc m) = ap suc (length-up (suc a) m)

pub length-order : (n s : ℕ) → 1 ≤ s → s ≤ n → length (order n s) ≡ n
length-order n s a b = rw (length-append, length-up, length-up) (omega arith)

-- ---- each cell is asked once

up-later : (a m k : ℕ) → k < a → has k (up_from a m) ≡ false
up-later a m k h = by-test (has k (up_from a m)) (λ t. let q = (up_from-only a m k t).0 in let z : ⊥ = omega arith in absurd z) (λ t. t)

up-once : (a m : ℕ) → Once (up_from a m)
up-once a zero = tt
up-once a (suc m) = (up-later (suc a) m a (omega arith), up-once (suc a) m)

append-once : (l m : List ℕ) → Once l → Once m → ((k : ℕ) → has k l ≡ true → has k m ≡ false) → Once (l ++ m)
append-once [] m p q h = q
append-once (k ∷ l) m p q h = (
  has-append k l m ∙ rw p.0 (h k (or-left (eqb k k) (has k l) (eq-eqb k k refl))),
  append-once l m p.1 q (λ d e. h d (or-right (eqb d k) (has d l) e)),
)

pub order-once : (n s : ℕ) → 1 ≤ s → Once (order n s)
order-once n s h =
    append-once (up_from s (suc n - s)) (up_from 1 (s - 1)) (up-once s (suc n - s)) (up-once 1 (s - 1))
    (λ k e. by-test (has k (up_from 1 (s - 1)))
    (λ t. let p = (up_from-only s (suc n - s) k e).0 in let q = (up_from-only 1 (s - 1) k t).1 in let z : ⊥ = omega arith in absurd z)
    (λ t. t))

-- ---- one cell

-- A neighbour in the set is the cell after k or the cell before it.
neighbour-cases : (k : ℕ) (t : List ℕ) → has_neighbour k t ≡ true → (has (suc k) t ≡ true) ⊎ ((d : ℕ) × (suc d ≡ k) × (has d t ≡ true))
neighbour-cases k [] e = clash refl (sym e)
neighbour-cases k (d ∷ t) e =
    ⊎_elim
    (λ u. ⊎_elim
    (λ v. inl (or-left (eqb (suc k) d) (has (suc k) t) v))
    (λ v. inr (d, eqb-true (suc d) k v, or-left (eqb d d) (has d t) (eq-eqb d d refl)))
    (or-cases (eqb (suc k) d) (eqb (suc d) k) u))
    (λ u. ⊎_elim
    (λ v. inl (or-right (eqb (suc k) d) (has (suc k) t) v))
    (λ v. inr (v.0, v.1, or-right (eqb v.0 d) (has v.0 t) v.2))
    (neighbour-cases k t u))
    (or-cases (neighbours k d) (has_neighbour k t) e)

pub beside-is : (t : List ℕ) (k : ℕ) → Small t → beside_taken (cells_word t) k ≡ has_neighbour k t
unfolding beside_taken
beside-is t k s =
    rw (cells_word-bit t (k - 2) s, cells_word-bit t k s) (test-ext (ltb 1 k && has (suc (k - 2)) t || has (suc k) t) (has_neighbour k t)
    (λ u. ⊎_elim
    (λ v.
    let p = ltb-true 1 k (and-left (ltb 1 k) (has (suc (k - 2)) t) v) in
    neighbour-of k (suc (k - 2)) t (and-right (ltb 1 k) (has (suc (k - 2)) t) v)
    (or-right (eqb (suc k) (suc (k - 2))) (eqb (suc (suc (k - 2))) k) (eq-eqb (suc (suc (k - 2))) k (omega arith))))
    (λ v. neighbour-of k (suc k) t v (or-left (eqb (suc k) (suc k)) (eqb (suc (suc k)) k) (eq-eqb (suc k) (suc k) refl)))
    (or-cases (ltb 1 k && has (suc (k - 2)) t) (has (suc k) t) u))
    (λ u. ⊎_elim
    (λ v. or-right (ltb 1 k && has (suc (k - 2)) t) (has (suc k) t) v)
    (λ v.
    let q = (s v.0 v.2).0 in
    let before : suc (k - 2) ≡ v.0 = let e = v.1 in omega arith in
    or-left (ltb 1 k && has (suc (k - 2)) t) (has (suc k) t) (rw (lt-ltb 1 k (let e = v.1 in omega arith), before) v.2))
    (neighbour-cases k t u)))

-- What the branches of the code come to.

pub beside-before : (taken k : ℕ) → 1 < k → has_bit taken (k - 2) ≡ true → beside_taken taken k ≡ true
unfolding beside_taken
beside-before taken k h t = rw (lt-ltb 1 k h, t)

pub beside-after : (taken k : ℕ) → (1 < k → has_bit taken (k - 2) ≡ false) → beside_taken taken k ≡ has_bit taken k
unfolding beside_taken
beside-after taken k h = by-order 1 k (λ q. rw (lt-ltb 1 k q, h q)) (λ q. rw (le-ltb 1 k q))

pub may-unwilling : (K want rest taken k : ℕ) → holds_cell want k ≡ false → may_take K want rest taken k ≡ false
unfolding may_take
may-unwilling K want rest taken k w = rw w

pub may-resting : (K want rest taken k : ℕ) → holds_cell want k ≡ true → holds_cell rest k ≡ true → may_take K want rest taken k ≡ false
unfolding may_take
may-resting K want rest taken k w r = rw (w, r)

pub may-beside : (K want rest taken k : ℕ) → holds_cell want k ≡ true → holds_cell rest k ≡ false → beside_taken taken k ≡ true
    → may_take K want rest taken k ≡ false
unfolding may_take
may-beside K want rest taken k w r b = rw (w, r, b)

pub may-few : (K want rest taken k : ℕ) → holds_cell want k ≡ true → holds_cell rest k ≡ false → beside_taken taken k ≡ false
    → may_take K want rest taken k ≡ ltb (ones taken) K
unfolding may_take
may-few K want rest taken k w r b = rw (w, r, b)

-- What is known of the taken cells, with one more or not.

pub small-more : (b : Bool) (k : ℕ) (t : List ℕ) → (1 ≤ k) × (k ≤ 16) → Small t → Small (cond b (k ∷ t) t)
small-more true k t h s d e = ⊎_elim (λ u. rw (eqb-true d k u) h) (s d) (or-cases (eqb d k) (has d t) e)
small-more false k t h s d e = s d e

pub once-more : (b : Bool) (k : ℕ) (t : List ℕ) → has k t ≡ false → Once t → Once (cond b (k ∷ t) t)
once-more true k t h o = (h, o)
once-more false k t h o = o

pub new-more : (b : Bool) (k : ℕ) (cells t : List ℕ) → has k cells ≡ false → ((d : ℕ) → has d (k ∷ cells) ≡ true → has d t ≡ false)
    → (d : ℕ) → has d cells ≡ true → has d (cond b (k ∷ t) t) ≡ false
new-more true k cells t h new d e =
    rw (ne_eqb d k (λ z. clash (rw z at e) h)) (new d (or-right (eqb d k) (has d cells) e))
new-more false k cells t h new d e = new d (or-right (eqb d k) (has d cells) e)

module _ (n K want rest : ℕ) where
  may-is : (t : List ℕ) (k : ℕ) → Small t → Once t → may_take K want rest (cells_word t) k ≡ takes K (holds_cell want) (holds_cell rest) k t
  unfolding may_take
  may-is t k s o = rw (beside-is t k s, cells_word-ones t s o)

  -- One cell of the walk.
  pub one-is : (t : List ℕ) (k : ℕ) → Small t → Once t → 1 ≤ k
      → take_one K want rest (cells_word t) k ≡ cells_word (cond (takes K (holds_cell want) (holds_cell rest) k t) (k ∷ t) t)
  unfolding take_one with_cell_if with_bit_if
  one-is t k s o h =
      rw (may-is t k s o, lt-ltb 0 k h) (by-test (takes K (holds_cell want) (holds_cell rest) k t) (λ u. rw u) (λ u. rw u))

  -- The rest of the walk, over the cells that are left, none of which was asked before.
  walk-is : (cells t : List ℕ) (k : ℕ) → Way n k cells → Small cells → Once cells → Small t → Once t
      → ((d : ℕ) → has d cells ≡ true → has d t ≡ false)
      → take_from (length cells) n K want rest k (cells_word t) ≡ cells_word (walk K (holds_cell want) (holds_cell rest) cells t)
  unfolding take_from
  walk-is [] t k w sc oc st ot new = refl
  walk-is (c ∷ cells) t k w sc oc st ot new =
      let mine : has c (c ∷ cells) ≡ true = or-left (eqb c c) (has c cells) (eq-eqb c c refl) in
      let b : Bool = takes K (holds_cell want) (holds_cell rest) c t in
      rw (← w.0) (ap (take_from (length cells) n K want rest (next_cell n c)) (one-is t c st ot (sc c mine).0)
      ∙ walk-is cells (cond b (c ∷ t) t) (next_cell n c) (rw (← w.0) at w.1) (λ d e. sc d (or-right (eqb d c) (has d cells) e)) oc.1
      (small-more b c t (sc c mine) st) (once-more b c t (new c mine) ot) (new-more b c cells t oc.0 new))

-- ---- the start cell

pub cell-says : (n k : ℕ) → is_cell n k ≡ true → InPack n k
unfolding is_cell
cell-says n k e =
    let both = and-left (ltb 0 k && leb k n) (leb n 10) e in
    record {
      ten = leb-true n 10 (and-right (ltb 0 k && leb k n) (leb n 10) e);
      first = ltb-true 0 k (and-left (ltb 0 k) (leb k n) both);
      last = leb-true k n (and-right (ltb 0 k) (leb k n) both);
    }

pub cell-is : (n k : ℕ) → InPack n k → is_cell n k ≡ true
unfolding is_cell
cell-is n k c = rw (lt-ltb 0 k c.first, le-leb k n c.last, le-leb n 10 c.ten)

-- ---- the chosen word

module _ (n K want rest start : ℕ) where
  -- From a cell of the pack it is the word of the walk's cells,
  pub chosen-walked : InPack n start → chosen_word n K want rest start ≡ cells_word (chosen n K (holds_cell want) (holds_cell rest) start)
  unfolding chosen_word
  chosen-walked c = rw (cell-is n start c)

  -- and of any other start there is none.
  pub chosen-nowhere : is_cell n start ≡ false → chosen_word n K want rest start ≡ 0
  unfolding chosen_word
  chosen-nowhere e = rw e

  -- The whole walk of the code is the chosen word.
  pub chosen-is : is_cell n start ≡ true → take_from n n K want rest start 0 ≡ chosen_word n K want rest start
  chosen-is e =
      let c = cell-says n start e in
      let small : Small (order n start) = λ k h. let q = order-only n start k c.first c.last h in let t = c.ten in (q.0, omega arith) in
      rw (chosen-walked c) (rw (length-order n start c.first c.last) at
      (walk-is n K want rest (order n start) [] start (order-way n start c.first c.last) small (order-once n start c.first)
      (λ d h. clash refl (sym h)) tt (λ d h. refl)))

  -- "Never more set bits than K",
  chosen-few : ones (chosen_word n K want rest start) ≤ K
  unfolding ones ones_in
  chosen-few =
      by-test (is_cell n start)
      (λ t. rw (chosen-walked (cell-says n start t)) (le_trans (cells_word-few (chosen n K (holds_cell want) (holds_cell rest) start)) (at-most-K n K (holds_cell want) (holds_cell rest) start)))
      (λ t. rw (chosen-nowhere t) zero-le)

  -- and no two neighbouring ones.
  chosen-apart : (i : ℕ) → has_bit (chosen_word n K want rest start) i ≡ true → has_bit (chosen_word n K want rest start) (i + 1) ≡ true → ⊥
  chosen-apart i p q =
      by-test (is_cell n start)
      (λ t.
      let c = cell-says n start t in
      let e = chosen-walked c in
      let b : List ℕ = chosen n K (holds_cell want) (holds_cell rest) start in
      let small : Small b =
      λ k h. let s = only-cells n K (holds_cell want) (holds_cell rest) start k c.first c.last h in let u = c.ten in (s.0, omega arith) in
      no-neighbours n K (holds_cell want) (holds_cell rest) start (suc i)
      (sym (cells_word-bit b i small) ∙ (rw e at p)) (sym (cells_word-bit b (suc i) small) ∙ (rw (e, add-one) at q)))
      (λ t. clash p (ap (λ (w : ℕ). has_bit w i) (chosen-nowhere t) ∙ has-zero i))

  -- What `choose` promises of the walk's word.
  pub chosen-meets : (word : ℕ) → word ≡ chosen_word n K want rest start → Chosen n K want rest start word
  chosen-meets word e =
      record { walked = e; few = rw e chosen-few; apart = λ i p q. chosen-apart i (rw e at p) (rw e at q) }

-- ---- the answer that needs no loop

-- Nothing is chosen if no cell wants.
pub chosen-none : (n K rest start : ℕ) → chosen_word n K 0 rest start ≡ 0
chosen-none n K rest start =
    by-test (is_cell n start)
    (λ t. chosen-walked n K 0 rest start (cell-says n start t) ∙ ap cells_word (walk-none K (holds_cell 0) (holds_cell rest) in-none (order n start) []))
    (λ t. chosen-nowhere n K 0 rest start t)

-- ---- one turn of the loop

pub after-one : (i : ℕ) → suc i - 1 ≡ i
after-one i = omega arith

-- What is left of the walk, when one cell more is asked.
pub take-on : (j n K want rest k taken : ℕ) → 0 < j
    → take_from j n K want rest k taken ≡ take_from (j - 1) n K want rest (next_cell n k) (take_one K want rest taken k)
unfolding take_from
take-on zero n K want rest k taken h = absurd (not-suc-le-zero h)
take-on (suc j) n K want rest k taken h = rw (after-one j)

pub take-none : (n K want rest k taken : ℕ) → take_from 0 n K want rest k taken ≡ taken
unfolding take_from
take-none n K want rest k taken = refl
