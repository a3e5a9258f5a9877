-- A set of cells as a word, bit k - 1 for cell k: which cells are in it, and the word of the cells that pass a test.
-- Assumes nothing.
use Rattle.std.specs.Prelude.{◌≡◌, Bool, false, ◌&&◌, ℕ, zero, suc, ◌-◌, ◌≤◌, ltb}
use Rattle.std.proofs.Common.{not-suc-le-zero, arith, lt-ltb}
use Rattle.laws.specs.Tests.{by-test}
use Rattle.laws.specs.Bits.{has_bit, has-zero}
use Rattle.laws.specs.Words.{bits_of, bits-same, bits-has, bits-empty, any-never}

-- Cell k is in the set that the word stands for; there is no cell 0.
unfoldable pub holds_cell : ℕ → ℕ → Bool
holds_cell w k = ltb 0 k && has_bit w (k - 1)

-- The word of those of the cells 1 to m that pass a test: cell i + 1 has bit i.
unfoldable pub cells_passing : ℕ → (ℕ → Bool) → ℕ
cells_passing m p = bits_of (λ i. p (suc i)) m

-- The word shows of each of the cells 1 to m whether it passes.
pub cells_passing-in : (m k : ℕ) (p : ℕ → Bool) → m ≤ 16 → 1 ≤ k → k ≤ m → holds_cell (cells_passing m p) k ≡ p k
unfolding holds_cell cells_passing
cells_passing-in m zero p h a b = absurd (not-suc-le-zero a)
cells_passing-in m (suc i) p h a b = let e : suc i - 1 ≡ i = omega arith in rw (lt-ltb 0 (suc i) a, e) (bits-has (λ j. p (suc j)) m i h b)

-- It depends only on what the test says of its cells.
pub cells_passing-same : (m : ℕ) (p q : ℕ → Bool) → ((k : ℕ) → 1 ≤ k → k ≤ m → p k ≡ q k) → cells_passing m p ≡ cells_passing m q
unfolding cells_passing
cells_passing-same m p q same = bits-same (λ i. p (suc i)) (λ i. q (suc i)) m (λ i h. same (suc i) (omega arith) h)

-- A test that no cell passes makes the empty word,
pub cells_passing-none : (m : ℕ) (p : ℕ → Bool) → ((k : ℕ) → p k ≡ false) → cells_passing m p ≡ 0
unfolding cells_passing
cells_passing-none m p h = bits-empty (λ i. p (suc i)) m (any-never (λ i. p (suc i)) m (λ i. h (suc i)))

-- which holds no cell.
pub in-none : (k : ℕ) → holds_cell 0 k ≡ false
unfolding holds_cell
in-none k = by-test (ltb 0 k) (λ t. rw t (has-zero (k - 1))) (λ t. rw t)
