-- A 16-bit word as a signed number, two's complement, and back.
-- Assumes nothing.
use Rattle.std.specs.Prelude.{◌≡◌, cond, ℕ, suc, ◌-◌, ◌≤◌, ◌<◌, ltb, ℤ, pos, negsuc, ◌-ℤ◌}
use Rattle.std.proofs.Common.{ap, arith, lt-ltb, le-ltb, ltb-true}
use Rattle.std.specs.Int.Signed.{mag}
use Rattle.laws.specs.Tests.{by-test}

-- The word x stands for itself below 0x8000, and from there on for x less 65536.
unfoldable pub signed_of : ℕ → ℤ
signed_of x = cond (ltb x 32768) (pos x) (pos x -ℤ pos 65536)

-- The word that stands for a number: `negsuc k` is -(k + 1), whose word is 65536 less that.
unfoldable pub word_of : ℤ → ℕ
word_of (pos k) = k
word_of (negsuc k) = 65536 - suc k

-- ---- there and back

-- Less 65536, a word is below 0.
word-less : (x : ℕ) → x < 65536 → pos x -ℤ pos 65536 ≡ negsuc (65535 - x)
word-less x h = rw (lt-ltb x 65536 h) (ap negsuc (omega arith))

-- A word from 0x8000 on stands for a number below 0.
pub signed-high : (x : ℕ) → 32768 ≤ x → x < 65536 → signed_of x ≡ negsuc (65535 - x)
unfolding signed_of
signed-high x g h = rw (le-ltb x 32768 g) (word-less x h)

pub signed-low : (x : ℕ) → x < 32768 → signed_of x ≡ pos x
unfolding signed_of
signed-low x h = rw (lt-ltb x 32768 h)

pub word-signed : (x : ℕ) → x < 65536 → word_of (signed_of x) ≡ x
unfolding word_of signed_of
word-signed x h =
    by-test (ltb x 32768)
    (λ t. rw (signed-low x (ltb-true x 32768 t)))
    (λ t. rw (t, word-less x h) (omega arith))

-- `mag z` is z where z is not negative, and else -z - 1.
pub signed-word : (z : ℤ) → mag z < 32768 → signed_of (word_of z) ≡ z
unfolding word_of signed_of
signed-word (pos k) h = signed-low k h
signed-word (negsuc k) h = rw (le-ltb (65536 - suc k) 32768 (omega arith), word-less (65536 - suc k) (omega arith)) (ap negsuc (omega arith))
