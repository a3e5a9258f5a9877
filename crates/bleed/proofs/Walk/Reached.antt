-- A cell is bled exactly if it is taken when the walk reaches it; the same by the code's walk over words, which stops there.
-- Assumes nothing.
use Rattle.std.specs.Prelude.{◌≡◌, false, cond, eqb, length}
use Rattle.std.proofs.Math.Path.{refl}
use Rattle.std.proofs.Common.{sym, ap, ◌∙◌, ⊎_elim, not-suc-le-zero, arith, eq-eqb, ne_eqb, eqb-true}
use Rattle.std.proofs.Math.Bool.{Bool, true}
use mathlib.Core.List.{List, [], ◌∷◌}
use Prim.Native.Nat.{ℕ, zero, suc, ◌-◌, ◌≤◌, ◌<◌}
use Rattle.std.specs.Int.Count.{ones}
use Rattle.laws.specs.Tests.{by-test, clash, or-left, or-right, or-cases}
use Rattle.laws.specs.Bits.{has_bit}
use Rattle.bleed_wants.specs.Word.{holds_cell}
use Rattle.bleed.specs.Resting.Steps.{next_cell}
use Rattle.bleed.specs.Walk.Walk.{has, has_neighbour, order, takes, walk, chosen}
use Rattle.bleed.proofs.Walk.WalkLaws.{walk-has, walk-from, walk-same, order-has, order-only}
use Rattle.bleed.specs.Walk.Word.{cells_word, Small, Once, cells_word-bit, cells_word-ones}
use Rattle.bleed.specs.Walk.Steps.{is_cell, beside_taken, take_one}
use Rattle.bleed.proofs.Walk.StepLaws.{order-way, order-once, length-order, cell-says, cell-is, one-is, beside-is, small-more, once-more, new-more, after-one}
use Rattle.bleed.specs.Walk.InPack.{Way, InPack}
use Rattle.bleed.specs.Walk.Reached.{up_to, taken_before, taken_word, take_to}

module _ (K : ℕ) (wants rests : ℕ → Bool) where
  none-later : (k : ℕ) (cells t : List ℕ) → has k cells ≡ false → has k t ≡ false → has k (walk K wants rests cells t) ≡ false
  none-later k cells t c h =
      by-test (has k (walk K wants rests cells t))
      (λ u. ⊎_elim (λ v. clash v c) (λ v. clash v h) (walk-from K wants rests k cells t u))
      (λ u. u)

  own-cell : (k : ℕ) (cells t : List ℕ) → has k cells ≡ false → has k t ≡ false
      → has k (walk K wants rests (k ∷ cells) t) ≡ takes K wants rests k t
  own-cell k cells t c h =
      by-test (takes K wants rests k t)
      (λ e. rw e (walk-has K wants rests k cells (k ∷ t) (or-left (eqb k k) (has k t) (eq-eqb k k refl))))
      (λ e. rw e (none-later k cells t c h))

  other-cell : (b : Bool) (k d : ℕ) (t : List ℕ) → eqb k d ≡ false → has k t ≡ false → has k (cond b (d ∷ t) t) ≡ false
  other-cell true k d t e h = rw (e, h)
  other-cell false k d t e h = h

  pub reached : (k : ℕ) (cells t : List ℕ) → Once cells → has k cells ≡ true → has k t ≡ false
      → has k (walk K wants rests cells t) ≡ takes K wants rests k (walk K wants rests (up_to k cells) t)
  reached k [] t o m h = clash refl (sym m)
  reached k (d ∷ cells) t o m h =
      by-test (eqb k d)
      (λ e.
      let same : d ≡ k = sym (eqb-true k d e) in
      rw (e, same) (own-cell k cells t (rw same at o.0) h))
      (λ e. rw e (reached k cells (cond (takes K wants rests d t) (d ∷ t) t) o.1 (rw e at m) (other-cell (takes K wants rests d t) k d t e h)))

-- Cell k is bled exactly if it wants, isn't resting, has no neighbour taken and fewer than K are taken, when the walk reaches it.
pub bled-takes : (n K : ℕ) (wants rests : ℕ → Bool) (start k : ℕ) → 1 ≤ start → 1 ≤ k → k ≤ n
    → has k (chosen n K wants rests start) ≡ takes K wants rests k (taken_before n K wants rests start k)
bled-takes n K wants rests start k hs hk h =
    reached K wants rests k (order n start) [] (order-once n start hs) (order-has n start k hs hk h) refl

-- ---- the same by the code

module _ (n K want rest k : ℕ) where
  -- The rest of the walk up to cell k, over the cells that are left, none of which was asked before.
  to-is : (cells t : List ℕ) (d : ℕ) → Way n d cells → Small cells → Once cells → Small t → Once t
      → ((e : ℕ) → has e cells ≡ true → has e t ≡ false)
      → take_to (length cells) n K want rest k d (cells_word t) ≡ cells_word (walk K (holds_cell want) (holds_cell rest) (up_to k cells) t)
  unfolding take_to
  to-is [] t d w sc oc st ot new = refl
  to-is (c ∷ cells) t d w sc oc st ot new =
      let mine : has c (c ∷ cells) ≡ true = or-left (eqb c c) (has c cells) (eq-eqb c c refl) in
      let b : Bool = takes K (holds_cell want) (holds_cell rest) c t in
      rw (← w.0) (by-test (eqb k c)
      (λ u. rw u)
      (λ u. rw u (ap (take_to (length cells) n K want rest k (next_cell n c)) (one-is n K want rest t c st ot (sc c mine).0)
      ∙ to-is cells (cond b (c ∷ t) t) (next_cell n c) (rw (← w.0) at w.1) (λ e q. sc e (or-right (eqb e c) (has e cells) q)) oc.1
      (small-more b c t (sc c mine) st) (once-more b c t (new c mine) ot) (new-more b c cells t oc.0 new))))

  -- One turn of the loop.
  pub to-reached : (j d taken : ℕ) → k ≡ d → take_to j n K want rest k d taken ≡ taken
  unfolding take_to
  to-reached zero d taken e = refl
  to-reached (suc j) d taken e = rw (eq-eqb k d e)

  pub to-on : (j d taken : ℕ) → 0 < j → (k ≡ d → ⊥)
      → take_to j n K want rest k d taken ≡ take_to (j - 1) n K want rest k (next_cell n d) (take_one K want rest taken d)
  unfolding take_to
  to-on zero d taken h ne = absurd (not-suc-le-zero h)
  to-on (suc j) d taken h ne = rw (ne_eqb k d ne, after-one j)

  pub to-none : (d taken : ℕ) → take_to 0 n K want rest k d taken ≡ taken
  unfolding take_to
  to-none d taken = refl

  module _ (start : ℕ) where
    -- From a cell of the pack it is the word of the cells that are taken before cell k,
    pub taken-walked : InPack n start → taken_word n K want rest start k ≡ cells_word (taken_before n K (holds_cell want) (holds_cell rest) start k)
    unfolding taken_word
    taken-walked c = rw (cell-is n start c)

    -- and of any other start there is none.
    pub taken-nowhere : is_cell n start ≡ false → taken_word n K want rest start k ≡ 0
    unfolding taken_word
    taken-nowhere e = rw e

    -- The walk of the code up to cell k.
    pub taken-is : is_cell n start ≡ true → take_to n n K want rest k start 0 ≡ taken_word n K want rest start k
    taken-is e =
        let c = cell-says n start e in
        let small : Small (order n start) = λ d h. let q = order-only n start d c.first c.last h in let t = c.ten in (q.0, omega arith) in
        rw (taken-walked c) (rw (length-order n start c.first c.last) at
        (to-is (order n start) [] start (order-way n start c.first c.last) small (order-once n start c.first)
        (λ d h. clash refl (sym h)) tt (λ d h. refl)))

-- ---- what the word of the cells that are taken before says

up-only : (k d : ℕ) (cells : List ℕ) → has d (up_to k cells) ≡ true → has d cells ≡ true
up-only k d [] e = e
up-only k d (c ∷ cells) e =
    by-test (eqb k c)
    (λ u. clash refl (sym (rw u at e)))
    (λ u. ⊎_elim
    (λ v. or-left (eqb d c) (has d cells) v)
    (λ v. or-right (eqb d c) (has d cells) (up-only k d cells v))
    (or-cases (eqb d c) (has d (up_to k cells)) (rw u at e)))

up-once : (k : ℕ) (cells : List ℕ) → Once cells → Once (up_to k cells)
up-once k [] o = tt
up-once k (c ∷ cells) o =
    by-test (eqb k c)
    (λ u. rw u tt)
    (λ u. rw u (by-test (has c (up_to k cells)) (λ v. clash (up-only k c cells v) o.0) (λ v. v), up-once k cells o.1))

-- Each cell is taken once.
walk-once : (K : ℕ) (wants rests : ℕ → Bool) (cells t : List ℕ) → Once cells → Once t → ((d : ℕ) → has d cells ≡ true → has d t ≡ false)
    → Once (walk K wants rests cells t)
walk-once K wants rests [] t oc ot new = ot
walk-once K wants rests (c ∷ cells) t oc ot new =
    let b : Bool = takes K wants rests c t in
    walk-once K wants rests cells (cond b (c ∷ t) t) oc.1 (once-more b c t (new c (or-left (eqb c c) (has c cells) (eq-eqb c c refl))) ot)
    (new-more b c cells t oc.0 new)

module _ (n K : ℕ) (wants rests : ℕ → Bool) (start k : ℕ) (c : InPack n start) where
  abbrev t : List ℕ
  t = taken_before n K wants rests start k

  -- Who is taken before is a cell of the pack.
  pub taken-cells : (d : ℕ) → has d t ≡ true → (1 ≤ d) × (d ≤ n)
  taken-cells d e =
      ⊎_elim
      (λ u. order-only n start d c.first c.last (up-only k d (order n start) u))
      (λ u. clash refl (sym u))
      (walk-from K wants rests d (up_to k (order n start)) [] e)

  small : Small t
  small d e = let q = taken-cells d e in let m = c.ten in (q.0, omega arith)

  -- Its word has as many set bits as cells are taken before,
  pub taken-ones : ones (cells_word t) ≡ length t
  taken-ones = cells_word-ones t small (walk-once K wants rests (up_to k (order n start)) [] (up-once k (order n start) (order-once n start c.first)) tt (λ d h. refl))

  -- its bits are those cells,
  pub taken-bit : (i : ℕ) → has_bit (cells_word t) i ≡ has (suc i) t
  taken-bit i = cells_word-bit t i small

  -- and a neighbour of a cell is among them exactly if it has one of the bits beside.
  pub taken-beside : (d : ℕ) → beside_taken (cells_word t) d ≡ has_neighbour d t
  taken-beside d = beside-is t d small

  -- Who is taken before depends only on what is said of the pack's cells.
  pub taken-same : (wants' rests' : ℕ → Bool) → ((d : ℕ) → 1 ≤ d → d ≤ n → (wants d ≡ wants' d) × (rests d ≡ rests' d))
      → taken_before n K wants rests start k ≡ taken_before n K wants' rests' start k
  taken-same wants' rests' same =
      walk-same K wants rests wants' rests' (up_to k (order n start)) [] (λ d e.
      let q = order-only n start d c.first c.last (up-only k d (order n start) e) in same d q.0 q.1)
