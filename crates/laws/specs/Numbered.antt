-- Numbers one after the other, and a list given by number: entry p is what f says of p.
-- Assumes nothing.
use Rattle.std.specs.Prelude.{◌≡◌, List, [], ◌∷◌, map, length, get_or}
use Rattle.std.proofs.Math.Path.{refl, sym, ap}
use Rattle.std.proofs.Common.{◌∙◌, zero-add, suc-add, add-suc, not-suc-le-zero, le_of_suc-le-suc, arith, ext_get_or}
use Prim.Native.Nat.{ℕ, zero, suc, ◌+◌, ◌<◌}
use Rattle.std.proofs.Math.Nat.{add-zero}
use Rattle.laws.specs.Each.{each_to, each-length, each-below}

-- a, a + 1, .., k numbers.
abbrev pub count_from : ℕ → ℕ → List ℕ
count_from a zero = []
count_from a (suc k) = a ∷ count_from (suc a) k

module _ {A : Type 0} where
  -- f a, f (a + 1), .., k entries.
  unfoldable pub list_from : (ℕ → A) → ℕ → ℕ → List A
  list_from f a k = map f (count_from a k)

  -- f 0, f 1, .., n entries.
  unfoldable pub list_of : (ℕ → A) → ℕ → List A
  unfolding list_from
  list_of f n = list_from f 0 n

  from-length : (f : ℕ → A) (a k : ℕ) → length (list_from f a k) ≡ k
  unfolding list_from
  from-length f a zero = refl
  from-length f a (suc k) = ap suc (from-length f (suc a) k)

  pub list_of-length : (f : ℕ → A) (n : ℕ) → length (list_of f n) ≡ n
  unfolding list_of
  list_of-length f n = from-length f 0 n

  from-at : (f : ℕ → A) (a k p : ℕ) (z : A) → p < k → get_or (list_from f a k) p z ≡ f (a + p)
  unfolding list_from
  from-at f a zero p z h = absurd (not-suc-le-zero h)
  from-at f a (suc k) zero z h = rw add-zero
  from-at f a (suc k) (suc p) z h = from-at f (suc a) k p z (le_of_suc-le-suc h) ∙ ap f (suc-add a p ∙ sym (add-suc a p))

  pub list_of-at : (f : ℕ → A) (n p : ℕ) (z : A) → p < n → get_or (list_of f n) p z ≡ f p
  unfolding list_of
  list_of-at f n p z h = from-at f 0 n p z h ∙ ap f (zero-add p)

  -- A list of n entries stepped entry by entry is the list of what each entry becomes.
  pub each-list_of : (z : A) (step : ℕ → A → A) (f : ℕ → A) (n : ℕ) (l : List A) → length l ≡ n
      → ((p : ℕ) → p < n → step p (get_or l p z) ≡ f p) → each_to z step n l ≡ list_of f n
  each-list_of z step f n l len same =
      ext_get_or z (each_to z step n l) (list_of f n) (each-length z step n l ∙ len ∙ sym (list_of-length f n)) (λ p h.
      let q : p < n = rw (each-length z step n l, len) at h in
      each-below z step n l p (omega arith) q ∙ same p q ∙ sym (list_of-at f n p z q))
