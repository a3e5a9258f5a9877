-- An array stepped entry by entry, for any kind of entry: entries below i are stepped, the others are as they were.
-- Assumes nothing.
use Rattle.std.specs.Prelude.{◌≡◌, List, get_or, set}
use Rattle.std.proofs.Math.Path.{refl}
use Rattle.std.proofs.Common.{ap, add-one, eq-or-lt_of_le, le_of_suc-le-suc, not-suc-le-zero, get_or-set_same}
use Prim.Native.Nat.{ℕ, zero, suc, ◌+◌, ◌-◌, ◌≤◌, ◌<◌}
use native.Mathlib.Omega.{arith}
use Rattle.std.proofs.Math.Logic.{⊎_elim}
use Rattle.std.proofs.Math.ListN.{length, length-set}
use Rattle.std.proofs.Math.Seq.{get_or-set_other}
use Rattle.std.proofs.lemmas.List.{set-get_or}

module _ {A : Type 0} (z : A) (f : ℕ → A → A) where
  unfoldable pub each_to : ℕ → List A → List A
  each_to zero l = l
  each_to (suc n) l = set (each_to n l) n (f n (get_or (each_to n l) n z))

  -- One turn of the loop that steps entry n.
  pub each-next : (n : ℕ) (l q : List A) (r : A) → q ≡ each_to n l → r ≡ f n (get_or q n z) → set q n r ≡ each_to (n + 1) l
  unfolding each_to
  each-next n l q r e er = rw (add-one, er, e)

  pub each-length : (n : ℕ) (l : List A) → length (each_to n l) ≡ length l
  unfolding each_to
  each-length zero l = refl
  each-length (suc n) l = rw length-set (each-length n l)

  -- Entries from n on are as they were.
  pub each-above : (n : ℕ) (l : List A) (k : ℕ) → n ≤ k → get_or (each_to n l) k z ≡ get_or l k z
  unfolding each_to
  each-above zero l k h = refl
  each-above (suc n) l k h = let ne : k ≡ n → ⊥ = λ e. omega arith in rw get_or-set_other (each-above n l k (omega arith))

  -- Each entry below n is the step of what it was.
  pub each-below : (n : ℕ) (l : List A) (k : ℕ) → n ≤ length l → k < n → get_or (each_to n l) k z ≡ f k (get_or l k z)
  unfolding each_to
  each-below zero l k h q = absurd (not-suc-le-zero q)
  each-below (suc n) l k h q =
      ⊎_elim
      (λ (e : k ≡ n). let lt : n < length (each_to n l) = rw (each-length n l) (omega arith) in rw (e, get_or-set_same) (ap (f n) (each-above n l n (omega arith))))
      (λ (lt : k < n). let ne : k ≡ n → ⊥ = λ e. omega arith in rw get_or-set_other (each-below n l k (omega arith) lt))
      (eq-or-lt_of_le (le_of_suc-le-suc q))

  -- Where no step changes its entry, the array is as it was.
  pub each-same : (n : ℕ) (l : List A) → ((k : ℕ) → k < n → f k (get_or l k z) ≡ get_or l k z) → each_to n l ≡ l
  unfolding each_to
  each-same zero l same = refl
  each-same (suc n) l same = rw (each-same n l (λ k q. same k (omega arith)), same n (omega arith)) (set-get_or l n z)

  -- The k entries from n on are stepped, the others are as they were.
  unfoldable pub each_from : ℕ → ℕ → List A → List A
  each_from n zero l = l
  each_from n (suc k) l = set (each_from n k l) (n + k) (f (n + k) (get_or (each_from n k l) (n + k) z))

  -- One turn of the loop that steps entry i, of those from n on.
  pub each-from-next : (n i : ℕ) → n ≤ i → (l q : List A) (r : A) → q ≡ each_from n (i - n) l → r ≡ f i (get_or q i z) → set q i r ≡ each_from n (i + 1 - n) l
  unfolding each_from
  each-from-next n i h l q r e er =
      let at : n + (i - n) ≡ i = omega arith in
      let one : i + 1 - n ≡ suc (i - n) = omega arith in
      rw (one, at, er, e)

  -- The first n and then k more are the first n + k.
  pub each-join : (n k : ℕ) (l : List A) → each_from n k (each_to n l) ≡ each_to (n + k) l
  unfolding each_from each_to
  each-join n zero l = let none : n + 0 ≡ n = omega arith in rw none
  each-join n (suc k) l = let more : n + suc k ≡ suc (n + k) = omega arith in rw (more, each-join n k l)
