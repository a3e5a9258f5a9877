-- The bytes before the first of a kind, and the search for it byte by byte.
use Rattle.std.specs.Prelude.{ℕ, zero, suc, ◌+◌, ◌<◌, ◌≤◌, ◌≡◌, refl, Bool, true, false, not, ◌&&◌, cond, List, [], ◌∷◌, ◌++◌, eqb, length, take, drop, get_or}
use Rattle.std.proofs.Common.{sym, ap, ◌∙◌, true≢false, not-suc-le-zero, le_of_suc-le-suc, add-one, arith, drop_of_length-le, drop-cons, take_all}
use borrow.Author.Tests.{eq-eqb, ne_eqb, eqb-true}
use Rattle.laws.specs.Tests.{by-test, clash, and-left, and-right}

-- the bytes of x before the first w, or all of them where there is none
unfoldable pub before : ℕ → List ℕ → List ℕ
before w [] = []
before w (b ∷ x) = cond (eqb b w) [] (b ∷ before w x)

-- whether x has no w
unfoldable pub lacks : ℕ → List ℕ → Bool
lacks w [] = true
lacks w (b ∷ x) = cond (eqb b w) false (lacks w x)

pub before-length : (w : ℕ) (x : List ℕ) → length (before w x) ≤ length x
unfolding before
before-length w [] = omega arith
before-length w (b ∷ x) =
    by-test (eqb b w) (λ t. rw t (omega arith)) (λ t. rw t (let k = before-length w x in omega arith))

pub before-front : (w : ℕ) (x : List ℕ) → before w x ≡ take (length (before w x)) x
unfolding before
before-front w [] = refl
before-front w (b ∷ x) =
    by-test (eqb b w) (λ t. rw t) (λ t. rw t (ap (λ (l : List ℕ). b ∷ l) (before-front w x)))

pub before-lacks : (w : ℕ) (x : List ℕ) → lacks w (before w x) ≡ true
unfolding before lacks
before-lacks w [] = refl
before-lacks w (b ∷ x) = by-test (eqb b w) (λ t. rw t) (λ t. rw (t, t) (before-lacks w x))

-- a w stands behind, or there is none
pub before-splits : (w : ℕ) (x : List ℕ) → length (before w x) < length x
    → x ≡ before w x ++ (w ∷ drop (suc (length (before w x))) x)
unfolding before
before-splits w [] h = absurd (not-suc-le-zero h)
before-splits w (b ∷ x) h =
    by-test (eqb b w)
    (λ t. rw t (ap (λ (a : ℕ). a ∷ x) (eqb-true b w t)))
    (λ t. rw t (ap (λ (l : List ℕ). b ∷ l) (before-splits w x (le_of_suc-le-suc (rw t at h)))))

pub before-all : (w : ℕ) (x : List ℕ) → length x ≤ length (before w x) → before w x ≡ x
before-all w x h = before-front w x ∙ take_all (length (before w x)) x h

pub lacks-head : (w b : ℕ) (x : List ℕ) → lacks w (b ∷ x) ≡ true → (eqb b w ≡ false) × (lacks w x ≡ true)
unfolding lacks
lacks-head w b x e = by-test (eqb b w) (λ t. absurd (true≢false (sym (rw t at e)))) (λ t. (t, rw t at e))

-- what lacks w, and then w
pub before-at : (w : ℕ) (x rest : List ℕ) → lacks w x ≡ true → before w (x ++ (w ∷ rest)) ≡ x
unfolding before
before-at w [] rest p = rw (eq-eqb w w refl)
before-at w (b ∷ x) rest p =
    let q = lacks-head w b x p in rw q.0 (ap (λ (l : List ℕ). b ∷ l) (before-at w x rest q.1))

-- what lacks w, and no more
pub before-none : (w : ℕ) (x : List ℕ) → lacks w x ≡ true → before w (x ++ []) ≡ x
unfolding before
before-none w [] p = refl
before-none w (b ∷ x) p =
    let q = lacks-head w b x p in rw q.0 (ap (λ (l : List ℕ). b ∷ l) (before-none w x q.1))

-- the search at e: it goes on, it stands there, there is no more
module _ (w : ℕ) (x : List ℕ) (e : ℕ) where
  pub find-on : e < length x → (get_or x e 0 ≡ w → ⊥)
      → e + 1 + length (before w (drop (e + 1) x)) ≡ e + length (before w (drop e x))
  unfolding before
  find-on h n = rw (drop-cons x e 0 h, ne_eqb (get_or x e 0) w n, add-one) (omega arith)

  pub find-here : e < length x → get_or x e 0 ≡ w → e ≡ e + length (before w (drop e x))
  unfolding before
  find-here h n = rw (drop-cons x e 0 h, eq-eqb (get_or x e 0) w n) (omega arith)

  pub find-past : length x ≤ e → e ≡ e + length (before w (drop e x))
  unfolding before
  find-past h = rw (drop_of_length-le x h) (omega arith)

  -- where the search from a place ends
  abbrev pub sought : ℕ → ℕ
  sought i = i + length (before w (drop i x))

  -- it does not stand at e: the search from the next place, f, ends where the one from e does
  pub find-next : (f : ℕ) → f ≡ e + 1 → e < length x → (get_or x e 0 ≡ w → ⊥) → sought f ≡ sought e
  find-next f q h n = ap sought q ∙ find-on h n

-- ---- some bytes at once

-- whether none of the k bytes of x from e on is w, as the code joins its tests
unfoldable pub none_of : ℕ → ℕ → List ℕ → ℕ → Bool
none_of zero w x e = true
none_of (suc zero) w x e = not (eqb (get_or x e 0) w)
none_of (suc (suc k)) w x e = none_of (suc k) w x e && not (eqb (get_or x (e + suc k) 0) w)

other : (a b : ℕ) → not (eqb a b) ≡ true → a ≡ b → ⊥
other a b t q = clash (rw (eq-eqb a b q) at t) refl

-- then the search from behind them ends where the one from e does
pub find-behind : (k w : ℕ) (x : List ℕ) (e : ℕ) → e + suc k ≤ length x → none_of (suc k) w x e ≡ true
    → sought w x e (e + suc k) ≡ sought w x e e
unfolding none_of
find-behind zero w x e h t = find-next w x e (e + 1) refl (omega arith) (other (get_or x e 0) w t)
find-behind (suc k) w x e h t =
    let rest : none_of (suc k) w x e ≡ true = and-left _ _ t in
    let last = and-right (none_of (suc k) w x e) _ t in
    find-next w x (e + suc k) (e + suc (suc k)) (omega arith) (omega arith) (other (get_or x (e + suc k) 0) w last)
    ∙ find-behind k w x e (omega arith) rest
