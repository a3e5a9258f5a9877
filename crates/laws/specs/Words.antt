-- A word made of a test, bit by bit, and whether the test picks anything: for any test of a number.
-- Assumes nothing.
use Rattle.std.specs.Prelude.{◌≡◌, refl, Bool, true, false, not, cond, ◌&&◌, ◌||◌, ℕ, zero, suc, ◌+◌, ◌≤◌, ◌<◌, eqb, ltb}
use Rattle.std.proofs.Common.{sym, ap, ap₂, ◌∙◌, true≢false, ⊎_elim, zero-le, not-suc-le-zero, eq-or-lt_of_le, le_of_suc-le-suc, add-one, arith, ne_eqb, lt-ltb, le-ltb, ltb-false}
use Rattle.laws.specs.Tests.{by-test, by-order, clash, or-left, or-right}
use Rattle.laws.specs.Bits.{has_bit, with_bit_if, has-zero, has-same, has-other}

-- Bit i for each i below n that the test picks.
unfoldable pub bits_of : (ℕ → Bool) → ℕ → ℕ
bits_of test zero = 0
bits_of test (suc i) = with_bit_if (test i) (bits_of test i) i

-- Whether the test picks an i below n.
unfoldable pub any_of : (ℕ → Bool) → ℕ → Bool
any_of test zero = false
any_of test (suc i) = any_of test i || test i

-- ---- what a loop over the bits needs

pub bits-none : (test : ℕ → Bool) → 0 ≡ bits_of test 0
unfolding bits_of
bits-none test = refl

-- One turn: bit i is what the test says of i.
pub bits-next : (test : ℕ → Bool) (i w r : ℕ) (b : Bool) → w ≡ bits_of test i → b ≡ test i → r ≡ with_bit_if b w i
    → r ≡ bits_of test (i + 1)
unfolding bits_of
bits-next test i w r b e t er = rw (add-one, er, t, e)

pub any-none : (test : ℕ → Bool) → any_of test 0 ≡ false
unfolding any_of
any-none test = refl

pub any-next : (test : ℕ → Bool) (i : ℕ) → any_of test i ≡ false → test i ≡ false → any_of test (i + 1) ≡ false
unfolding any_of
any-next test i e t = rw (add-one, e, t)

pub any-yes : (test : ℕ → Bool) (n i : ℕ) → i < n → test i ≡ true → any_of test n ≡ true
unfolding any_of
any-yes test zero i h t = absurd (not-suc-le-zero h)
any-yes test (suc n) i h t =
    ⊎_elim
    (λ (e : i ≡ n). or-right (any_of test n) (test n) (rw (← e) t))
    (λ (q : i < n). or-left (any_of test n) (test n) (any-yes test n i q t))
    (eq-or-lt_of_le (le_of_suc-le-suc h))

-- ---- only what the test says below n counts

pub any-same : (f g : ℕ → Bool) (n : ℕ) → ((i : ℕ) → i < n → f i ≡ g i) → any_of f n ≡ any_of g n
unfolding any_of
any-same f g zero same = refl
any-same f g (suc n) same = ap₂ ◌||◌ (any-same f g n (λ i h. same i (omega arith))) (same n (omega arith))

pub bits-same : (f g : ℕ → Bool) (n : ℕ) → ((i : ℕ) → i < n → f i ≡ g i) → bits_of f n ≡ bits_of g n
unfolding bits_of
bits-same f g zero same = refl
bits-same f g (suc n) same =
    ap₂ (λ (b : Bool) (w : ℕ). with_bit_if b w n) (same n (omega arith)) (bits-same f g n (λ i h. same i (omega arith)))

-- Where the test picks nothing from k on, the first k are all that counts.
pub any-short : (test : ℕ → Bool) (k n : ℕ) → k ≤ n → ((i : ℕ) → k ≤ i → i < n → test i ≡ false) → any_of test n ≡ any_of test k
unfolding any_of
any-short test k zero h none = let e : k ≡ 0 = omega arith in rw e
any-short test k (suc n) h none =
    ⊎_elim
    (λ (e : k ≡ suc n). rw e)
    (λ (q : k < suc n). rw (none n (le_of_suc-le-suc q) (omega arith)) (or-none (any_of test n) ∙ any-short test k n (le_of_suc-le-suc q) (λ i a b. none i a (omega arith))))
    (eq-or-lt_of_le h)
  where
    or-none : (a : Bool) → a || false ≡ a
    or-none true = refl
    or-none false = refl

pub bits-short : (test : ℕ → Bool) (k n : ℕ) → k ≤ n → ((i : ℕ) → k ≤ i → i < n → test i ≡ false) → bits_of test n ≡ bits_of test k
unfolding bits_of with_bit_if
bits-short test k zero h none = let e : k ≡ 0 = omega arith in rw e
bits-short test k (suc n) h none =
    ⊎_elim
    (λ (e : k ≡ suc n). rw e)
    (λ (q : k < suc n). rw (none n (le_of_suc-le-suc q) (omega arith)) (bits-short test k n (le_of_suc-le-suc q) (λ i a b. none i a (omega arith))))
    (eq-or-lt_of_le h)

-- A test that only the numbers below n can pass makes the word of those.
pub bits-within : (m n : ℕ) (test : ℕ → Bool) → bits_of (λ i. ltb i n && test i) m ≡ bits_of test (cond (ltb n m) n m)
unfolding bits_of with_bit_if
bits-within zero n test = rw (le-ltb n 0 zero-le)
bits-within (suc m) n test =
    by-order m n
    (λ h.
    let below : cond (ltb n m) n m ≡ m = rw (le-ltb n m (omega arith)) in
    rw (lt-ltb m n h, le-ltb n (suc m) h) (ap (λ (w : ℕ). with_bit_if (test m) w m) (bits-within m n test ∙ ap (bits_of test) below)))
    (λ h.
    let all : cond (ltb n m) n m ≡ n = by-test (ltb n m) (λ t. rw t) (λ t. let q = ltb-false n m t in rw t (omega arith)) in
    rw (le-ltb m n h, lt-ltb n (suc m) (omega arith)) (bits-within m n test ∙ ap (bits_of test) all))

-- ---- the word's bits

with-has : (b : Bool) (w p i : ℕ) → (i ≡ p → ⊥) → has_bit (with_bit_if b w p) i ≡ has_bit w i
unfolding with_bit_if
with-has true w p i ne = has-other w p i ne
with-has false w p i ne = refl

with-own : (b : Bool) (w p : ℕ) → p < 16 → has_bit w p ≡ false → has_bit (with_bit_if b w p) p ≡ b
unfolding with_bit_if
with-own true w p h e = has-same w p h
with-own false w p h e = e

-- Past the n-th no bit is set.
pub bits-past : (test : ℕ → Bool) (n i : ℕ) → n ≤ i → has_bit (bits_of test n) i ≡ false
unfolding bits_of
bits-past test zero i h = has-zero i
bits-past test (suc n) i h = with-has (test n) (bits_of test n) n i (λ e. omega arith) ∙ bits-past test n i (omega arith)

-- Bit i is set exactly if the test picks i.
pub bits-has : (test : ℕ → Bool) (n i : ℕ) → n ≤ 16 → i < n → has_bit (bits_of test n) i ≡ test i
unfolding bits_of
bits-has test zero i m h = absurd (not-suc-le-zero h)
bits-has test (suc n) i m h =
    ⊎_elim
    (λ (e : i ≡ n). rw e (with-own (test n) (bits_of test n) n (omega arith) (bits-past test n n (omega arith))))
    (λ (q : i < n). with-has (test n) (bits_of test n) n i (λ e. omega arith) ∙ bits-has test n i (omega arith) q)
    (eq-or-lt_of_le (le_of_suc-le-suc h))

-- ---- the empty word

-- A test that picks nothing makes the word 0.
pub bits-empty : (test : ℕ → Bool) (n : ℕ) → any_of test n ≡ false → bits_of test n ≡ 0
unfolding any_of bits_of with_bit_if
bits-empty test zero e = refl
bits-empty test (suc n) e =
    by-test (any_of test n)
    (λ a. clash (rw a) e)
    (λ a. by-test (test n) (λ t. clash (rw (a, t)) e) (λ t. rw t (bits-empty test n a)))

pub any-never : (test : ℕ → Bool) (n : ℕ) → ((i : ℕ) → test i ≡ false) → any_of test n ≡ false
unfolding any_of
any-never test zero h = refl
any-never test (suc n) h = rw (any-never test n h, h n)

or-first : (a : Bool) → a || false ≡ true → a ≡ true
or-first true e = refl
or-first false e = e

any-some : (test : ℕ → Bool) (n : ℕ) → n ≤ 16 → any_of test n ≡ true → bits_of test n ≡ 0 → ⊥
unfolding any_of bits_of with_bit_if
any-some test zero m e z = true≢false (sym e)
any-some test (suc n) m e z =
    by-test (test n)
    (λ t. clash (bits-has test (suc n) n m (omega arith) ∙ t) (ap (λ (w : ℕ). has_bit w n) z ∙ has-zero n))
    (λ t. any-some test n (omega arith) (or-first (any_of test n) (rw t at e)) (rw t at z))

-- The word is 0 exactly if the test picks none.
pub any-bits : (test : ℕ → Bool) (n : ℕ) → n ≤ 16 → any_of test n ≡ not (eqb (bits_of test n) 0)
any-bits test n m =
    by-test (any_of test n)
    (λ e. rw (e, ne_eqb (bits_of test n) 0 (any-some test n m e)))
    (λ e. rw (e, bits-empty test n e))
