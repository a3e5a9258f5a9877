-- "R 1, one cell always wanting, no others: it is bled at every second sample": of any n, any K and any cell, however many samples there are.
-- Assumes nothing.
use Rattle.std.specs.Prelude.{◌≡◌, refl, Bool, true, false, not, List, [], ◌∷◌, map, ℕ, zero, suc, ◌≤◌, eqb, length, get_or, replicate}
use Rattle.std.proofs.Common.{sym, ⊎_elim, mod-lt, arith, eq-eqb, eqb-true}
use Rattle.laws.specs.Tests.{by-test, clash, or-left, or-cases}
use Rattle.bleed.specs.Walk.Walk.{has}
use Rattle.bleed.proofs.Walk.WalkLaws.{lone-bled}
use Rattle.bleed.specs.Walk.History.{resting, start_cell, bleds}

-- Cell k wants, and no other.
abbrev pub only : ℕ → ℕ → Bool
only k j = has j (k ∷ [])

-- Yes at the first of m samples, and then at every second; the latest first.
abbrev pub every_second : ℕ → List Bool
every_second zero = []
every_second (suc m) = not (get_or (every_second m) 0 false) ∷ every_second m

only-one : (k j : ℕ) → only k j ≡ true → j ≡ k
only-one k j e = ⊎_elim (λ u. eqb-true j k u) (λ u. clash refl (sym u)) (or-cases (eqb j k) false e)

wants-it : (k : ℕ) → only k k ≡ true
wants-it k = or-left (eqb k k) false (eq-eqb k k refl)

-- ---- all samples

-- With R 1 a cell rests if it was bled at the sample before.
rests-after-one : (k : ℕ) (before : List (List ℕ)) → resting 1 before k ≡ get_or (map (has k) before) 0 false
rests-after-one k [] = refl
rests-after-one k (x ∷ before) = by-test (has k x) (λ e. rw e) (λ e. rw e)

pub bled-every-second : (n K k m : ℕ) → 1 ≤ K → 1 ≤ k → k ≤ n → map (has k) (bleds n K 1 (replicate m (only k))) ≡ every_second m
bled-every-second n K k zero some cell last = refl
bled-every-second n K k (suc m) some cell last =
    rw (
      lone-bled n K (only k) (resting 1 (bleds n K 1 (replicate m (only k)))) (start_cell n (length (replicate m (only k)))) k some (omega arith) (mod-lt (length (replicate m (only k))) (omega arith)) cell last (wants-it k) (λ d a b e. only-one k d e),
      rests-after-one k (bleds n K 1 (replicate m (only k))),
      bled-every-second n K k m some cell last,
    )
