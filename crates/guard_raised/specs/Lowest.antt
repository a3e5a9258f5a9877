-- The lowest number that a test picks, and the search for it.
-- Assumes nothing.
use Rattle.std.specs.Prelude.{◌≡◌, refl, Bool, true, false, cond, ◌⊎◌, [], ◌∷◌, eqb, leb, ltb}
use Rattle.std.proofs.Common.{sym, ap, ◌∙◌, inl, eq-or-lt_of_le, zero-add, not-suc-le-zero, lt-ltb, le-ltb}
use Rattle.std.proofs.Math.Logic.{inr, ⊎_elim}
use Prim.Native.Nat.{ℕ, zero, suc, ◌+◌, ◌-◌, ◌<◌, zero-le}
use native.Mathlib.Omega.{arith}
use Rattle.laws.specs.Tests.{by-test, by-order, clash}
use Rattle.units.specs.declared.ProtectionNo.{ProtectionNo}
use Rattle.laws.specs.Words.{any_of, any-none, any-yes, any-short}

-- The lowest of the j numbers from i on that the test picks; the number behind them where it picks none.
unfoldable pub lowest_from : (ℕ → Bool) → ℕ → ℕ → ℕ
lowest_from test i zero = i
lowest_from test i (suc j) = cond (test i) i (lowest_from test (i + 1) j)

-- The lowest number below n that the test picks, and n where it picks none.
unfoldable pub lowest_of : (ℕ → Bool) → ℕ → ℕ
lowest_of test n = lowest_from test 0 n

-- Of 3 and 5 below ten the 3; below three none.
lowest-cases : lowest_of (λ i. eqb i 3) 10 ∷ lowest_of (λ i. leb 3 i) 10 ∷ lowest_of (leb 3) 3 ∷ lowest_of (leb 0) 3 ∷ [] ≡ 3 ∷ 3 ∷ 3 ∷ 0 ∷ []
unfolding lowest_of lowest_from
lowest-cases = refl

-- ---- what the search needs

-- The protection of that number.
abbrev pub numbered : ℕ → ProtectionNo
numbered p = record { 0 = p }

pub search-starts : (test : ℕ → Bool) (n : ℕ) → lowest_from test 0 (n - 0) ≡ lowest_of test n
unfolding lowest_of
search-starts test n = ap (lowest_from test 0) (let e : n - 0 ≡ n = omega arith in e)

module _ (test : ℕ → Bool) (n i : ℕ) where
  left-one : i < n → n - i ≡ suc (n - (i + 1))
  left-one h = omega arith

  pub search-finds : i < n → test i ≡ true → lowest_from test i (n - i) ≡ i
  unfolding lowest_from
  search-finds h t = rw (left-one h, t)

  pub search-goes-on : i < n → test i ≡ false → lowest_from test (i + 1) (n - (i + 1)) ≡ lowest_from test i (n - i)
  unfolding lowest_from
  search-goes-on h t = rw (left-one h, t)

  pub search-ends : i ≡ n → lowest_from test i (n - i) ≡ n
  unfolding lowest_from
  search-ends e = let z : n - i ≡ 0 = omega arith in rw z e

-- ---- what it is

-- The number is picked and none lower is.
pub record IsLowest (test : ℕ → Bool) (n i : ℕ) : Type 0 where
  pub below : i < n
  pub picked : test i ≡ true
  pub none-lower : (m : ℕ) → m < i → test m ≡ false

module _ (test : ℕ → Bool) where
  from-found : (j i n : ℕ) → i + j ≡ n → ((m : ℕ) → m < i → test m ≡ false)
      → IsLowest test n (lowest_from test i j) ⊎ ((lowest_from test i j ≡ n) × ((m : ℕ) → m < n → test m ≡ false))
  unfolding lowest_from
  from-found zero i n e none = inr (omega arith, λ m h. none m (omega arith))
  from-found (suc j) i n e none =
      by-test (test i)
      (λ t. rw t (inl (record { below = omega arith; picked = t; none-lower = none })))
      (λ t. rw t (from-found j (i + 1) n (omega arith) (λ m h.
      ⊎_elim (λ (q : suc m ≡ i + 1). let z : m ≡ i = omega arith in rw z t) (λ (q : suc m < i + 1). none m (omega arith)) (eq-or-lt_of_le h))))

  -- Either there is a lowest, and that is it; or there is none.
  pub lowest-found : (n : ℕ) → IsLowest test n (lowest_of test n) ⊎ ((lowest_of test n ≡ n) × ((m : ℕ) → m < n → test m ≡ false))
  unfolding lowest_of
  lowest-found n = from-found n 0 n (zero-add n) (λ m h. absurd (not-suc-le-zero h))

  -- Where any is picked, there is one,
  pub lowest-is : (n : ℕ) → any_of test n ≡ true → IsLowest test n (lowest_of test n)
  lowest-is n any =
      ⊎_elim
      (λ q. q)
      (λ q. clash any (any-short test 0 n zero-le (λ m a h. q.1 m h) ∙ any-none test))
      (lowest-found n)

  -- and it is below n exactly then.
  pub any-lowest : (n : ℕ) → ltb (lowest_of test n) n ≡ any_of test n
  any-lowest n =
      ⊎_elim
      (λ q. lt-ltb (lowest_of test n) n q.below ∙ sym (any-yes test n (lowest_of test n) q.below q.picked))
      (λ q. le-ltb (lowest_of test n) n (let e = q.0 in omega arith) ∙ sym (any-short test 0 n zero-le (λ m a h. q.1 m h) ∙ any-none test))
      (lowest-found n)

-- What is picked, and none lower, is the lowest.
pub lowest-one : (test : ℕ → Bool) (n i : ℕ) → IsLowest test n i → lowest_of test n ≡ i
lowest-one test n i l =
    ⊎_elim
    (λ q. by-order (lowest_of test n) i
    (λ h. clash q.picked (l.none-lower (lowest_of test n) h))
    (λ h. by-order i (lowest_of test n) (λ g. clash l.picked (q.none-lower i g)) (λ g. omega arith)))
    (λ q. clash l.picked (q.1 i l.below))
    (lowest-found test n)

-- Only what the test says below n counts.
from-same : (f g : ℕ → Bool) (j i n : ℕ) → i + j ≡ n → ((m : ℕ) → m < n → f m ≡ g m) → lowest_from f i j ≡ lowest_from g i j
unfolding lowest_from
from-same f g zero i n e same = refl
from-same f g (suc j) i n e same = rw (same i (omega arith), from-same f g j (i + 1) n (omega arith) same)

pub lowest-same : (f g : ℕ → Bool) (n : ℕ) → ((m : ℕ) → m < n → f m ≡ g m) → lowest_of f n ≡ lowest_of g n
unfolding lowest_of
lowest-same f g n same = from-same f g n 0 n (zero-add n) same
