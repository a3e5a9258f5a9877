-- Histories: a list of what was accepted since the load, the latest first. "The last k" are the first k of the list.
-- Assumes nothing.
use Rattle.std.specs.Prelude.{◌≡◌, refl, Bool, true, false, cond, ◌&&◌, List, [], ◌∷◌, ℕ, zero, suc, ◌+◌, ◌≤◌, ◌<◌, leb, ltb, length, drop}
use Rattle.std.proofs.Common.{sym, ap, ◌∙◌, true≢false, zero-le, suc-le-suc, zero-add, suc-add, le_of_suc-le-suc, not-suc-le-zero, arith, add-one, lt-ltb}
use Rattle.std.proofs.Math.Seq.{drop-nil}
use Rattle.std.proofs.Math.Dec.{leb-zero, leb-suc-zero, leb-suc-suc}
use Rattle.laws.specs.Tests.{by-test}

-- A run that is kept in a byte, one on: one longer where the test holds, else none. It stays at 255.
unfoldable pub next_run : Bool → ℕ → ℕ
next_run counts run = cond counts (cond (ltb run 255) (run + 1) run) 0

-- Below 255 it goes on where the test holds, and ends where it does not.
pub run-goes-on : (b : Bool) (r : ℕ) → r < 255 → next_run b r ≡ cond b (suc r) 0
unfolding next_run
run-goes-on true r h = rw (lt-ltb r 255 h, add-one)
run-goes-on false r h = refl

module _ {A : Type 0} where
  -- There are k at least, and p holds at each of the last k.
  abbrev pub last_all : ℕ → (A → Bool) → List A → Bool
  last_all zero p l = true
  last_all (suc k) p [] = false
  last_all (suc k) p (x ∷ l) = p x && last_all k p l

  -- At how many of the last k p holds.
  abbrev pub among : ℕ → (A → Bool) → List A → ℕ
  among zero p l = 0
  among (suc k) p [] = 0
  among (suc k) p (x ∷ l) = cond (p x) (suc (among k p l)) (among k p l)

  -- The trailing run: at how many of the latest in a row p holds.
  abbrev pub run : (A → Bool) → List A → ℕ
  run p [] = 0
  run p (x ∷ l) = cond (p x) (suc (run p l)) 0

  -- "The last k all do" is "the run is k at least".
  pub last_all-run : (k : ℕ) (p : A → Bool) (l : List A) → last_all k p l ≡ leb k (run p l)
  last_all-run zero p l = sym (leb-zero (run p l))
  last_all-run (suc k) p [] = sym (leb-suc-zero k)
  last_all-run (suc k) p (x ∷ l) =
      by-test (p x)
      (λ e. rw e (last_all-run k p l ∙ sym (leb-suc-suc k (run p l))))
      (λ e. rw e (sym (leb-suc-zero k)))

  pub last_all-le : (k m : ℕ) (p : A → Bool) (l : List A) → k ≤ m → last_all m p l ≡ true → last_all k p l ≡ true
  last_all-le zero m p l h e = refl
  last_all-le (suc k) zero p l h e = absurd (not-suc-le-zero h)
  last_all-le (suc k) (suc m) p [] h e = e
  last_all-le (suc k) (suc m) p (x ∷ l) h e =
      by-test (p x)
      (λ t. rw t (last_all-le k m p l (le_of_suc-le-suc h) (rw t at e)))
      (λ t. absurd (true≢false (sym (rw t at e))))

  pub last_all-length : (k : ℕ) (p : A → Bool) (l : List A) → last_all k p l ≡ true → k ≤ length l
  last_all-length zero p l e = zero-le
  last_all-length (suc k) p [] e = absurd (true≢false (sym e))
  last_all-length (suc k) p (x ∷ l) e =
      by-test (p x)
      (λ t. suc-le-suc (last_all-length k p l (rw t at e)))
      (λ t. absurd (true≢false (sym (rw t at e))))

  -- The first part and the second part of "the last k + m all do".
  pub last_all-front : (k m : ℕ) (p : A → Bool) (l : List A) → last_all (k + m) p l ≡ true → last_all k p l ≡ true
  last_all-front k m p l e = last_all-le k (k + m) p l (omega arith) e

  pub last_all-back : (k m : ℕ) (p : A → Bool) (l : List A) → last_all (k + m) p l ≡ true → last_all m p (drop k l) ≡ true
  last_all-back zero m p l e = rw zero-add at e
  last_all-back (suc k) m p [] e = absurd (true≢false (sym (rw suc-add at e)))
  last_all-back (suc k) m p (x ∷ l) e =
      let e' : p x && last_all (k + m) p l ≡ true = rw suc-add at e in
      by-test (p x)
      (λ t. last_all-back k m p l (rw t at e'))
      (λ t. absurd (true≢false (sym (rw t at e'))))

  pub among-le : (k m : ℕ) (p : A → Bool) (l : List A) → k ≤ m → among k p l ≤ among m p l
  among-le zero m p l h = zero-le
  among-le (suc k) zero p l h = absurd (not-suc-le-zero h)
  among-le (suc k) (suc m) p [] h = zero-le
  among-le (suc k) (suc m) p (x ∷ l) h =
      let i : among k p l ≤ among m p l = among-le k m p l (le_of_suc-le-suc h) in
      by-test (p x) (λ t. rw t (suc-le-suc i)) (λ t. rw t i)

  pub among-add : (k m : ℕ) (p : A → Bool) (l : List A) → among (k + m) p l ≡ among k p l + among m p (drop k l)
  among-add zero m p l = rw (zero-add, zero-add)
  among-add (suc k) m p [] = rw (suc-add, drop-nil) (among-nil m)
    where
      among-nil : (j : ℕ) → 0 ≡ 0 + among j p []
      among-nil zero = refl
      among-nil (suc j) = refl
  among-add (suc k) m p (x ∷ l) =
      let i = among-add k m p l in
      rw suc-add (by-test (p x) (λ t. rw t (ap suc i ∙ sym (suc-add _ _))) (λ t. rw t i))
