-- Laws of the walk: at most K, no two neighbours, only cells that want and do not rest, and nobody is passed over without a reason.
-- Assumes nothing.
use Rattle.std.specs.Prelude.{◌≡◌, refl, ◌⊎◌, Bool, true, false, not, ◌&&◌, ◌||◌, List, [], ◌∷◌, ◌++◌, ℕ, zero, suc, ◌+◌, ◌-◌, ◌≤◌, ◌<◌, leb, ltb, eqb, length}
use Rattle.std.proofs.Common.{sym, ap, ◌∙◌, inl, inr, ⊎_elim, true≢false, zero-le, arith, not-suc-le-zero, lt-ltb, eq-eqb, ne_eqb, eqb-true, ltb-true, ltb-false, leb-true, leb-false}
use Rattle.std.proofs.lemmas.Bool.{not-true, eqb-false}
use Rattle.laws.specs.Tests.{by-test, clash, and-left, and-right, or-left, or-right, or-cases}
use Rattle.bleed.specs.Walk.Walk.{has, neighbours, has_neighbour, up_from, order, takes, walk, chosen}
use Rattle.bleed.specs.Walk.Settled.{Settled}

-- A cell of the set that is a neighbour of k makes k have a neighbour there.
pub neighbour-of : (k d : ℕ) (l : List ℕ) → has d l ≡ true → neighbours k d ≡ true → has_neighbour k l ≡ true
neighbour-of k d [] h e = clash refl (sym h)
neighbour-of k d (y ∷ l) h e =
    ⊎_elim
    (λ u. or-left (neighbours k y) (has_neighbour k l) (rw (← (eqb-true d y u)) e))
    (λ u. or-right (neighbours k y) (has_neighbour k l) (neighbour-of k d l u e))
    (or-cases (eqb d y) (has d l) h)

-- ---- the walk over any list of cells

module _ (K : ℕ) (wants rests : ℕ → Bool) where
  -- What holds at the beginning, and is kept as a cell is taken, holds at the end.
  pub walk-keeps : (I : List ℕ → Type 0) → ((k : ℕ) (t : List ℕ) → takes K wants rests k t ≡ true → I t → I (k ∷ t))
      → (cells t : List ℕ) → I t → I (walk K wants rests cells t)
  walk-keeps I s [] t i = i
  walk-keeps I s (k ∷ cells) t i =
      by-test (takes K wants rests k t)
      (λ e. rw e (walk-keeps I s cells (k ∷ t) (s k t e i)))
      (λ e. rw e (walk-keeps I s cells t i))

  pub walk-has : (k : ℕ) (cells t : List ℕ) → has k t ≡ true → has k (walk K wants rests cells t) ≡ true
  walk-has k cells t h = walk-keeps (λ l. has k l ≡ true) (λ d l e i. or-right (eqb k d) (has k l) i) cells t h

  first-taken : (k : ℕ) (cells : List ℕ) → takes K wants rests k [] ≡ true → has k (walk K wants rests (k ∷ cells) []) ≡ true
  first-taken k cells f = rw f (walk-has k cells (k ∷ []) (rw (eq-eqb k k refl)))

  -- What the test to take a cell says.
  takes-says : (k : ℕ) (t : List ℕ) → takes K wants rests k t ≡ true
      → (wants k && not (rests k) ≡ true) × (has_neighbour k t ≡ false) × (length t < K)
  takes-says k t e =
      let a = and-left (wants k && not (rests k) && not (has_neighbour k t)) (ltb (length t) K) e in (
        and-left (wants k && not (rests k)) (not (has_neighbour k t)) a,
        not-true (has_neighbour k t) (and-right (wants k && not (rests k)) (not (has_neighbour k t)) a),
        ltb-true (length t) K (and-right (wants k && not (rests k) && not (has_neighbour k t)) (ltb (length t) K) e),
      )

  -- The walk takes nothing if no cell wants.
  pub walk-none : ((k : ℕ) → wants k ≡ false) → (cells t : List ℕ) → walk K wants rests cells t ≡ t
  walk-none h [] t = refl
  walk-none h (k ∷ cells) t = rw (h k) (walk-none h cells t)

  pub walk-few : (cells t : List ℕ) → length t ≤ K → length (walk K wants rests cells t) ≤ K
  walk-few cells t h = walk-keeps (λ l. length l ≤ K) (λ d l e i. (takes-says d l e).2) cells t h

  pub walk-only : (k : ℕ) (cells : List ℕ) → has k (walk K wants rests cells []) ≡ true → wants k && not (rests k) ≡ true
  walk-only k cells =
      walk-keeps (λ l. has k l ≡ true → wants k && not (rests k) ≡ true)
      (λ d l e i h. ⊎_elim (λ u. rw (eqb-true k d u) (takes-says d l e).0) i (or-cases (eqb k d) (has k l) h))
      cells [] (λ h. clash refl (sym h))

  pub walk-apart : (k : ℕ) (cells : List ℕ) → has k (walk K wants rests cells []) ≡ true
      → has (suc k) (walk K wants rests cells []) ≡ true → ⊥
  walk-apart k cells =
      walk-keeps (λ l. has k l ≡ true → has (suc k) l ≡ true → ⊥)
      (λ d l e i h g.
      let alone = (takes-says d l e).1 in
      ⊎_elim
      (λ u. ⊎_elim
      (λ v. omega (arith, eqb-true k d u, eqb-true (suc k) d v))
      (λ v. clash (neighbour-of d (suc k) l v (or-left (eqb (suc d) (suc k)) (eqb (suc (suc k)) d) (eq-eqb (suc d) (suc k) (ap suc (sym (eqb-true k d u)))))) alone)
      (or-cases (eqb (suc k) d) (has (suc k) l) g))
      (λ u. ⊎_elim
      (λ v. clash (neighbour-of d k l u (or-right (eqb (suc d) k) (eqb (suc k) d) v)) alone)
      (λ v. i u v)
      (or-cases (eqb (suc k) d) (has (suc k) l) g))
      (or-cases (eqb k d) (has k l) h))
      cells [] (λ h. clash refl (sym h))

  -- What is taken was asked, or taken before.
  pub walk-from : (k : ℕ) (cells t : List ℕ) → has k (walk K wants rests cells t) ≡ true → (has k cells ≡ true) ⊎ (has k t ≡ true)
  walk-from k [] t e = inr e
  walk-from k (c ∷ cells) t e =
      by-test (takes K wants rests c t)
      (λ u. ⊎_elim
      (λ v. inl (or-right (eqb k c) (has k cells) v))
      (λ v. ⊎_elim (λ x. inl (or-left (eqb k c) (has k cells) x)) inr (or-cases (eqb k c) (has k t) v))
      (walk-from k cells (c ∷ t) (rw u at e)))
      (λ u. ⊎_elim (λ v. inl (or-right (eqb k c) (has k cells) v)) inr (walk-from k cells t (rw u at e)))

  -- Only the cells on the walk are asked whether they want and whether they rest.
  pub walk-same : (wants' rests' : ℕ → Bool) (cells t : List ℕ)
      → ((k : ℕ) → has k cells ≡ true → (wants k ≡ wants' k) × (rests k ≡ rests' k))
      → walk K wants rests cells t ≡ walk K wants' rests' cells t
  walk-same wants' rests' [] t h = refl
  walk-same wants' rests' (c ∷ cells) t h =
      let q = h c (or-left (eqb c c) (has c cells) (eq-eqb c c refl)) in
      rw (q.0, q.1) (walk-same wants' rests' cells _ (λ k e. h k (or-right (eqb k c) (has k cells) e)))

  settled-stays : (k : ℕ) (cells t : List ℕ) → Settled K k t → Settled K k (walk K wants rests cells t)
  settled-stays k cells t =
      walk-keeps (Settled K k)
      (λ d l e. ⊎_elim
      (λ u. inl (or-right (eqb k d) (has k l) u))
      (λ q. ⊎_elim (λ u. inr (inl (or-right (neighbours k d) (has_neighbour k l) u))) (λ u. inr (inr (omega arith))) q))
      cells t

  settled-now : (k : ℕ) (t : List ℕ) → wants k && not (rests k) ≡ true → takes K wants rests k t ≡ false → Settled K k t
  settled-now k t w e =
      by-test (has_neighbour k t)
      (λ u. inr (inl u))
      (λ u. by-test (ltb (length t) K) (λ v. clash (rw (w, u, v)) e) (λ v. inr (inr (ltb-false (length t) K v))))

  walk-settles : (k : ℕ) (cells t : List ℕ) → has k cells ≡ true → wants k && not (rests k) ≡ true
      → Settled K k (walk K wants rests cells t)
  walk-settles k [] t m w = absurd (true≢false (sym m))
  walk-settles k (d ∷ cells) t m w =
      ⊎_elim
      (λ u. by-test (takes K wants rests d t)
      (λ e. rw e (settled-stays k cells (d ∷ t) (inl (or-left (eqb k d) (has k t) u))))
      (λ e. rw e (settled-stays k cells t (settled-now k t w (rw (eqb-true k d u) e)))))
      (λ u. walk-settles k cells _ u w)
      (or-cases (eqb k d) (has k cells) m)

-- ---- the order of the walk

up_from-has : (a j k : ℕ) → a ≤ k → k < a + j → has k (up_from a j) ≡ true
up_from-has a zero k h g = let z : ⊥ = omega arith in absurd z
up_from-has a (suc j) k h g =
    by-test (eqb k a)
    (λ u. or-left (eqb k a) (has k (up_from (suc a) j)) u)
    (λ u. or-right (eqb k a) (has k (up_from (suc a) j))
    (up_from-has (suc a) j k (let ne : k ≡ a → ⊥ = eqb-false k a u in omega arith) (omega arith)))

-- Only the cells from a on, j of them.
pub up_from-only : (a j k : ℕ) → has k (up_from a j) ≡ true → (a ≤ k) × (k < a + j)
up_from-only a zero k e = clash refl (sym e)
up_from-only a (suc j) k e =
    ⊎_elim
    (λ u. let q = eqb-true k a u in (omega arith, omega arith))
    (λ u. let q = up_from-only (suc a) j k u in (omega arith, omega arith))
    (or-cases (eqb k a) (has k (up_from (suc a) j)) e)

pub has-append : (k : ℕ) (l m : List ℕ) → has k (l ++ m) ≡ has k l || has k m
has-append k [] m = refl
has-append k (d ∷ l) m = by-test (eqb k d) (λ u. rw u) (λ u. rw u (has-append k l m))

-- Every cell is walked over,
pub order-has : (n s k : ℕ) → 1 ≤ s → 1 ≤ k → k ≤ n → has k (order n s) ≡ true
order-has n s k hs hk h =
    rw has-append (by-test (leb s k)
    (λ u. let q : s ≤ k = leb-true s k u in
    or-left (has k (up_from s (suc n - s))) (has k (up_from 1 (s - 1))) (up_from-has s (suc n - s) k q (omega arith)))
    (λ u. let q : k < s = leb-false s k u in
    or-right (has k (up_from s (suc n - s))) (has k (up_from 1 (s - 1))) (up_from-has 1 (s - 1) k hk (omega arith))))

-- nothing else is,
pub order-only : (n s k : ℕ) → 1 ≤ s → s ≤ n → has k (order n s) ≡ true → (1 ≤ k) × (k ≤ n)
order-only n s k hs h e =
    ⊎_elim
    (λ u. let q = up_from-only s (suc n - s) k u in (omega arith, omega arith))
    (λ u. let q = up_from-only 1 (s - 1) k u in (omega arith, omega arith))
    (or-cases (has k (up_from s (suc n - s))) (has k (up_from 1 (s - 1))) (sym (has-append k (up_from s (suc n - s)) (up_from 1 (s - 1))) ∙ e))

-- and the start cell is first.
order-own : (n k : ℕ) → 1 ≤ k → k ≤ n → order n k ≡ k ∷ (up_from (suc k) (n - k) ++ up_from 1 (k - 1))
order-own n k hk h = let e : suc n - k ≡ suc (n - k) = omega arith in rw e

-- ---- one sample

module _ (n K : ℕ) (wants rests : ℕ → Bool) (start : ℕ) where
  -- "Nor more than K cells."
  pub at-most-K : length (chosen n K wants rests start) ≤ K
  at-most-K = walk-few K wants rests (order n start) [] zero-le

  -- "Never are two neighbours bled at once."
  pub no-neighbours : (k : ℕ) → has k (chosen n K wants rests start) ≡ true → has (suc k) (chosen n K wants rests start) ≡ true → ⊥
  no-neighbours k = walk-apart K wants rests k (order n start)

  pub only-wanting : (k : ℕ) → has k (chosen n K wants rests start) ≡ true → wants k && not (rests k) ≡ true
  only-wanting k = walk-only K wants rests k (order n start)

  -- Only cells of the pack.
  pub only-cells : (k : ℕ) → 1 ≤ start → start ≤ n → has k (chosen n K wants rests start) ≡ true → (1 ≤ k) × (k ≤ n)
  only-cells k a b e =
      ⊎_elim (λ u. order-only n start k a b u) (λ u. clash refl (sym u)) (walk-from K wants rests k (order n start) [] e)

  -- A cell that wants and does not rest is bled, or a neighbour is, or K cells are.
  pub no-waste : (k : ℕ) → 1 ≤ start → 1 ≤ k → k ≤ n → wants k && not (rests k) ≡ true
      → Settled K k (chosen n K wants rests start)
  no-waste k hs hk h w = walk-settles K wants rests k (order n start) [] (order-has n start k hs hk h) w

-- At a cell's own start turn it is bled exactly if it wants and does not rest, whatever the other cells do.
pub own-turn : (n K : ℕ) (wants rests : ℕ → Bool) (k : ℕ) → 1 ≤ k → k ≤ n → 0 < K
    → has k (chosen n K wants rests k) ≡ wants k && not (rests k)
own-turn n K wants rests k hk h some =
    by-test (wants k && not (rests k))
    (λ e.
    let f : takes K wants rests k [] ≡ true = rw (e, lt-ltb 0 K some) in
    rw (order-own n k hk h) (first-taken K wants rests k (up_from (suc k) (n - k) ++ up_from 1 (k - 1)) f ∙ sym e))
    (λ e. rw e (by-test (has k (chosen n K wants rests k)) (λ u. clash (only-wanting n K wants rests k k u) e) (λ u. u)))

-- ---- a cell that wants alone

-- No cell but k is in the set.
abbrev OnlyK : ℕ → List ℕ → Type 0
OnlyK k l = (d : ℕ) → has d l ≡ true → d ≡ k

head-only : (k d : ℕ) (l : List ℕ) → OnlyK k (d ∷ l) → d ≡ k
head-only k d l h = h d (or-left (eqb d d) (has d l) (eq-eqb d d refl))

only-no-neighbour : (k : ℕ) (l : List ℕ) → OnlyK k l → has_neighbour k l ≡ false
only-no-neighbour k [] h = refl
only-no-neighbour k (d ∷ l) h =
    let e : d ≡ k = head-only k d l h in
    rw (ne_eqb (suc k) d (λ q. omega arith), ne_eqb (suc d) k (λ q. omega arith), only-no-neighbour k l (λ j u. h j (or-right (eqb j d) (has j l) u)))

only-there : (k : ℕ) (l : List ℕ) → OnlyK k l → 0 < length l → has k l ≡ true
only-there k [] h p = absurd (not-suc-le-zero p)
only-there k (d ∷ l) h p = or-left (eqb k d) (has k l) (eq-eqb k d (sym (head-only k d l h)))

-- A cell that wants while no other cell of the pack does is bled exactly if it does not rest.
pub lone-bled : (n K : ℕ) (wants rests : ℕ → Bool) (start k : ℕ) → 0 < K → 1 ≤ start → start ≤ n → 1 ≤ k → k ≤ n → wants k ≡ true
    → ((d : ℕ) → 1 ≤ d → d ≤ n → wants d ≡ true → d ≡ k) → has k (chosen n K wants rests start) ≡ not (rests k)
lone-bled n K wants rests start k some begins ends first last want alone =
    by-test (rests k)
    (λ t. by-test (has k taken)
    (λ u. clash (only-wanting n K wants rests start k u) (rw (want, t)))
    (λ u. rw (u, t)))
    (λ t.
    let yes : has k taken ≡ true =
    ⊎_elim
    (λ u. u)
    (⊎_elim
    (λ u. clash u (only-no-neighbour k taken only-k))
    (λ u. only-there k taken only-k (omega arith)))
    (no-waste n K wants rests start k begins first last (rw (want, t))) in
    rw (yes, t))
  where
    taken : List ℕ
    taken = chosen n K wants rests start

    only-k : OnlyK k (chosen n K wants rests start)
    only-k d e =
        let inside = only-cells n K wants rests start d begins ends e in
        alone d inside.0 inside.1 (and-left (wants d) (not (rests d)) (only-wanting n K wants rests start d e))
