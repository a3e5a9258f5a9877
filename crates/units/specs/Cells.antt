-- How many cells a number stands for: a pack has ten at most.
-- Assumes nothing.
use Rattle.std.specs.Prelude.{◌≡◌, cond, ℕ, ◌≤◌, ◌<◌, ltb}
use Rattle.std.proofs.Common.{arith, ltb-true, ltb-false, lt-ltb, le-ltb}
use Rattle.laws.specs.Tests.{by-test}

-- How many entries of an array of ten are cells, if a page or a sample says `count`: a larger number stands for ten.
abbrev pub ten_at_most : ℕ → ℕ
ten_at_most count = cond (ltb count 10) count 10

pub ten-below : (count : ℕ) → count < 10 → ten_at_most count ≡ count
ten-below count h = rw (lt-ltb count 10 h)

pub ten-over : (count : ℕ) → 10 ≤ count → ten_at_most count ≡ 10
ten-over count h = rw (le-ltb count 10 h)

pub ten-most : (count : ℕ) → ten_at_most count ≤ 10
ten-most count = by-test (ltb count 10) (λ e. rw e (let h = ltb-true count 10 e in omega arith)) (λ e. rw e (omega arith))

-- Of ten cells or fewer, all are looked at.
pub ten-all : (count : ℕ) → count ≤ 10 → ten_at_most count ≡ count
ten-all count h =
    by-test (ltb count 10)
    (λ e. rw e)
    (λ e. let q = ltb-false count 10 e in rw e (let z : 10 ≡ count = omega arith in z))
