-- What the library finds in a list is what the definitions find by number.
-- Assumes nothing.
use Rattle.std.proofs.Common.{◌≡◌, refl, sym, ap, ◌∙◌, Bool, cond, ◌||◌, List, ℕ, zero, suc, ◌≤◌, length, get_or, take, add-one, ⊎_elim, arith, take_all, Some, None, lt-ltb, le-ltb, ltb}
use Rattle.std.specs.List.{list_any, position_or_len}
use Rattle.std.specs.Option.{unwrap_or}
use Rattle.std.proofs.lemmas.List.Folds.{list_any_more}
use Rattle.std.proofs.lemmas.List.Sums.{position_or_len_is}
use Rattle.laws.specs.Words.{any_of}
use Rattle.guard_raised.specs.Lowest.{lowest_of, lowest-found}

module _ {A : Type 0} (test : A → Bool) (l : List A) (z : A) where
  any-first : (n : ℕ) → n ≤ length l → list_any test (take n l) ≡ any_of (λ i. test (get_or l i z)) n
  unfolding any_of
  any-first zero h = refl
  any-first (suc n) h =
      let more : list_any test (take (suc n) l) ≡ (list_any test (take n l) || test (get_or l n z)) = rw add-one at (list_any_more test l n z (omega arith)) in
      more ∙ ap (λ (b : Bool). b || test (get_or l n z)) (any-first n (omega arith))

  pub any-list : (n : ℕ) → length l ≡ n → list_any test l ≡ any_of (λ i. test (get_or l i z)) n
  any-list n e = ap (list_any test) (sym (take_all n l (omega arith))) ∙ any-first n (omega arith)

  -- The place that was found, and the number past the last one where none was.
  pub found-list : (n : ℕ) → length l ≡ n
      → unwrap_or (cond (ltb (position_or_len test l) (length l)) (Some (position_or_len test l)) None) n ≡ lowest_of (λ i. test (get_or l i z)) n
  found-list n e =
      ⊎_elim
      (λ q. let b = q.below in
      let at = position_or_len_is test l (lowest_of (λ i. test (get_or l i z)) n) z (omega arith) q.none-lower (λ h. q.picked) in
      rw (at, lt-ltb (lowest_of (λ i. test (get_or l i z)) n) (length l) (omega arith)))
      (λ q. let b = q.0 in
      let at = position_or_len_is test l n z (omega arith) (λ k h. q.1 k (omega arith)) (λ h. absurd (omega arith)) in
      rw (at, le-ltb n (length l) (omega arith)) (sym b))
      (lowest-found (λ i. test (get_or l i z)) n)
