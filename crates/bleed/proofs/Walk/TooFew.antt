-- That n samples would not do where n + 1 do, computed from the definitions.
-- Assumes nothing.
use Rattle.std.specs.Prelude.{◌≡◌, refl, Bool, true, ◌&&◌, ℕ, zero, suc, ◌+◌, ◌≤◌, ◌<◌, eqb, take}
use Rattle.std.proofs.Common.{⊎_elim, eq-or-lt_of_le, arith, eqb-true}
use Rattle.laws.specs.Tests.{and-left, and-right}
use Rattle.laws.specs.Latest.{last_all, among}
use Rattle.bleed.specs.Walk.Walk.{has, up_from}
use Rattle.bleed.specs.Walk.History.{wants_cell, bleds}
use Rattle.bleed.specs.Walk.Cases.{history, starred_wishes, starves, waiting, both, all}

-- The worked sample up to its sixth, the two cells, and a history for each n from 2 to 10.
all-starve :
    starves 3 1 1 (history (take 6 starred_wishes)) && starves 2 1 2 (history both) && all (λ n. starves n 1 1 (waiting n)) (up_from 2 9) ≡ true
all-starve = refl

all-at : (p : ℕ → Bool) (a m k : ℕ) → all p (up_from a m) ≡ true → a ≤ k → k < a + m → p k ≡ true
all-at p a zero k e h q = let z : ⊥ = omega arith in absurd z
all-at p a (suc m) k e h q =
    ⊎_elim
    (λ (same : a ≡ k). rw (← same) (and-left (p a) (all p (up_from (suc a) m)) e))
    (λ (later : a < k). all-at p (suc a) m k (and-right (p a) (all p (up_from (suc a) m)) e) later (omega arith))
    (eq-or-lt_of_le h)

-- "Students always say n would do. It won't."
pub n-is-too-few : (n : ℕ) → 2 ≤ n → n ≤ 10
    → (last_all n (wants_cell 1) (waiting n) ≡ true) × (among n (has 1) (bleds n 1 1 (waiting n)) ≡ 0)
n-is-too-few n h t =
    let e : starves n 1 1 (waiting n) ≡ true = all-at (λ m. starves m 1 1 (waiting m)) 2 9 n all-starve h (omega arith) in (
      and-left (last_all n (wants_cell 1) (waiting n)) (eqb (among n (has 1) (bleds n 1 1 (waiting n))) 0) e,
      eqb-true (among n (has 1) (bleds n 1 1 (waiting n))) 0 (and-right (last_all n (wants_cell 1) (waiting n)) (eqb (among n (has 1) (bleds n 1 1 (waiting n))) 0) e),
    )
