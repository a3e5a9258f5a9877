-- Four bits at a time: the table of sixteen entries, and its rule, one test that is computed over all 256 remainders.
-- Assumes nothing.
use Rattle.std.specs.Prelude.{◌≡◌, refl, Bool, true, ◌&&◌, List, [], ◌∷◌, ℕ, zero, suc, ◌*◌, ◌/◌, ◌%◌, ◌<◌, eqb, get_or}
use Rattle.std.proofs.Common.{⊎_elim, not-suc-le-zero, eq-or-lt_of_le, le_of_suc-le-suc, eqb-true}
use Rattle.std.specs.Int.Bits.{bit_xor}
use Rattle.laws.specs.Tests.{and-left, and-right}
use Rattle.crc.specs.CheckByte.{times_x, times_xs}

-- What half a byte leaves when it is shifted out at the top: entry h is the remainder of h times x^8.
abbrev pub halves : List ℕ
halves = 0 ∷ 7 ∷ 14 ∷ 9 ∷ 28 ∷ 27 ∷ 18 ∷ 21 ∷ 56 ∷ 63 ∷ 54 ∷ 49 ∷ 36 ∷ 35 ∷ 42 ∷ 45 ∷ []

-- The test passes at every number below n.
abbrev every_below : (ℕ → Bool) → ℕ → Bool
every_below test zero = true
every_below test (suc n) = every_below test n && test n

below-at : (test : ℕ → Bool) (n k : ℕ) → every_below test n ≡ true → k < n → test k ≡ true
below-at test zero k e h = absurd (not-suc-le-zero h)
below-at test (suc n) k e h =
    ⊎_elim
    (λ (q : k ≡ n). rw q (and-right (every_below test n) (test n) e))
    (λ (q : k < n). below-at test n k (and-left (every_below test n) (test n) e) q)
    (eq-or-lt_of_le (le_of_suc-le-suc h))

-- The table's rule at one remainder: what its upper half leaves, joined to its lower half, is the remainder times x^4.
abbrev right : ℕ → Bool
right c = eqb (bit_xor (get_or halves (c / 16) 0) (c % 16 * 16)) (times_xs 4 c)

pub half-is : (c : ℕ) → c < 256 → bit_xor (get_or halves (c / 16) 0) (c % 16 * 16) ≡ times_xs 4 c
unfolding times_xs times_x
half-is c h = eqb-true (bit_xor (get_or halves (c / 16) 0) (c % 16 * 16)) (times_xs 4 c) (below-at right 256 c all-right h)
  where
    all-right : every_below right 256 ≡ true
    all-right = refl

-- A byte is two halves.
pub halves-are : (c b : ℕ) → times_xs 4 (times_xs 4 (bit_xor c b)) ≡ times_xs 8 (bit_xor c b)
unfolding times_xs
halves-are c b = refl
