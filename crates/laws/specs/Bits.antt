-- Single bits of a word: bit i of w is w / 2^i modulo 2. A word is built from shifted single bits, and a bit is tested
-- by shift and remainder.
-- Assumes nothing.
use Rattle.std.specs.Prelude.{◌≡◌, refl, Bool, true, false, cond, ◌⊎◌, ℕ, zero, suc, ◌+◌, ◌-◌, ◌*◌, ◌/◌, ◌%◌, ◌^◌, ◌≤◌, ◌<◌, eqb}
use Rattle.std.proofs.Common.{ap, ◌∙◌, inl, inr, ⊎_elim, pow-suc, mod-lt, mod-eq_of_lt, lt_of_lt_of_le, arith, lit<, pow_pos, pow_mono, pow-add}
use Rattle.std.proofs.Math.Nat.{div-eq_of_lt, div-div-eq-div-mul}
use Rattle.std.specs.Int.Bits.{bit_or, or_add_and, or_zero_r}
use Rattle.std.proofs.lemmas.Nat.{or_shr, or_mod, ones_cat, shl-shr}
use Rattle.std.specs.Int.Count.{ones, ones_in, ones_step}
use Rattle.std.proofs.Math.Pow.{pow-lt}
use Rattle.std.proofs.lemmas.Bool.{eqb-false}
use Rattle.laws.specs.Tests.{by-order}

-- Bit i of the word w is set.
unfoldable pub has_bit : ℕ → ℕ → Bool
has_bit w i = eqb (w / 2 ^ i % 2) 1

-- The word w of sixteen bits with bit i set; past the sixteenth there is none to set.
unfoldable pub with_bit : ℕ → ℕ → ℕ
with_bit w i = bit_or w (2 ^ i % 65536)

-- The word w with bit i set where the test holds.
unfoldable pub with_bit_if : Bool → ℕ → ℕ → ℕ
unfolding with_bit
with_bit_if b w i = cond b (with_bit w i) w

-- ---- what a shift makes

bit-in : (i : ℕ) → i < 16 → 2 ^ i % 65536 ≡ 2 ^ i
bit-in i h = mod-eq_of_lt (pow-lt {i = i} {j = 16} h)

bit-past : (i : ℕ) → 16 ≤ i → 2 ^ i % 65536 ≡ 0
bit-past i h =
    let e : i ≡ (i - 16) + 16 = omega arith in
    let p : 2 ^ i ≡ 2 ^ (i - 16) * 65536 = ap (λ (x : ℕ). 2 ^ x) e ∙ pow-add 2 (i - 16) 16 in
    rw p (omega arith)

-- What the code shifts to, `1 << i`.
pub shifted-one : (i : ℕ) → (1 * 2 ^ i) % 65536 ≡ 2 ^ i % 65536
shifted-one i = ap (λ (x : ℕ). x % 65536) (let e : 1 * 2 ^ i ≡ 2 ^ i = omega arith in e)

bit-same : (i : ℕ) → 2 ^ i / 2 ^ i % 2 ≡ 1
bit-same i = ap (λ (x : ℕ). x % 2) (ap (λ (x : ℕ). x / 2 ^ i) (let e : 2 ^ i ≡ 1 * 2 ^ i = omega arith in e) ∙ shl-shr 1 i)

bit-below : (c i : ℕ) → c < i → 2 ^ c / 2 ^ i % 2 ≡ 0
bit-below c i h = ap (λ (x : ℕ). x % 2) (div-eq_of_lt (pow-lt {i = c} {j = i} h))

bit-above : (d i : ℕ) → 2 ^ (suc d + i) / 2 ^ i % 2 ≡ 0
bit-above d i =
    let e : 2 ^ (suc d + i) / 2 ^ i ≡ 2 ^ suc d = ap (λ (x : ℕ). x / 2 ^ i) (pow-add 2 (suc d) i) ∙ shl-shr (2 ^ suc d) i in
    let p = pow-suc 2 d in
    rw e (omega arith)

lt-or-le : (a b : ℕ) → (a < b) ⊎ (b ≤ a)
lt-or-le a b = by-order a b inl inr

bit-other : (c i : ℕ) → (i ≡ c → ⊥) → 2 ^ c / 2 ^ i % 2 ≡ 0
bit-other c i ne =
    ⊎_elim
    (λ (h : c < i). bit-below c i h)
    (λ (h : i ≤ c). let e : c ≡ suc (c - suc i) + i = omega arith in rw e (bit-above (c - suc i) i))
    (lt-or-le c i)

or-bit : (a b i : ℕ) → bit_or a b / 2 ^ i % 2 ≡ bit_or (a / 2 ^ i % 2) (b / 2 ^ i % 2)
or-bit a b i = ap (λ (x : ℕ). x % 2) (or_shr a b i) ∙ or_mod (a / 2 ^ i) (b / 2 ^ i) 1

-- ---- a word's bits, one by one

pub has-zero : (i : ℕ) → has_bit 0 i ≡ false
unfolding has_bit
has-zero i = rw (div-eq_of_lt {n = 0} {m = 2 ^ i} (pow_pos i))

-- A bit past the word's width is not set.
pub has-past : (w i : ℕ) → w < 65536 → 16 ≤ i → has_bit w i ≡ false
unfolding has_bit
has-past w i h q =
    let p : 65536 ≤ 2 ^ i = pow_mono {i = 16} {j = i} q in
    let e : w / 2 ^ i ≡ 0 = div-eq_of_lt (lt_of_lt_of_le h p) in
    rw e

or-one : (x : ℕ) → x < 2 → bit_or x 1 ≡ 1
or-one zero h = refl
or-one (suc zero) h = refl
or-one (suc (suc x)) h = absurd (omega arith)

pub has-same : (w i : ℕ) → i < 16 → has_bit (with_bit w i) i ≡ true
unfolding has_bit with_bit
has-same w i h = rw (bit-in i h, or-bit w (2 ^ i) i, bit-same i, or-one (w / 2 ^ i % 2) (mod-lt (w / 2 ^ i) (lit< tt)))

-- Past the sixteenth bit there is none to set.
pub with-past : (w i : ℕ) → 16 ≤ i → with_bit w i ≡ w
unfolding with_bit
with-past w i h = rw (bit-past i h, or_zero_r)

pub has-other : (w c i : ℕ) → (i ≡ c → ⊥) → has_bit (with_bit w c) i ≡ has_bit w i
unfolding has_bit with_bit
has-other w c i ne =
    ⊎_elim
    (λ (h : c < 16). rw (bit-in c h, or-bit w (2 ^ c) i, bit-other c i ne, or_zero_r))
    (λ (h : 16 ≤ c). rw (bit-past c h, or_zero_r))
    (lt-or-le c 16)

-- ---- how many bits are set

ones-or : (k a b : ℕ) → b < 2 ^ k → ones (bit_or a b) ≤ ones a + ones b
ones-or zero a b h = let e : b ≡ 0 = omega arith in rw (e, or_zero_r) (omega arith)
ones-or (suc k) a b h =
    let low : bit_or a b % 2 ≡ bit_or (a % 2) (b % 2) = or_mod a b 1 in
    let high : bit_or a b / 2 ≡ bit_or (a / 2) (b / 2) = or_shr a b 1 in
    let most = or_add_and (a % 2) (b % 2) in
    let p = pow-suc 2 k in
    let rest = ones-or k (a / 2) (b / 2) (omega arith) in
    let u = ones_step a in
    let v = ones_step b in
    rw (ones_step (bit_or a b), low, high) (omega arith)

ones-pow : (c : ℕ) → ones (2 ^ c) ≡ 1
unfolding ones ones_in
ones-pow c = ap ones (let e : 2 ^ c ≡ 1 * 2 ^ c + 0 = omega arith in e) ∙ ones_cat c 1 0 (pow_pos c)

-- One more bit adds one at most.
pub ones-with : (w i : ℕ) → ones (with_bit w i) ≤ ones w + 1
unfolding with_bit
ones-with w i =
    ⊎_elim
    (λ (h : i < 16).
    let o = ones-or (suc i) w (2 ^ i) (pow-lt {i = i} {j = suc i} (omega arith)) in
    let p = ones-pow i in
    rw (bit-in i h) (omega arith))
    (λ (h : 16 ≤ i). rw (bit-past i h, or_zero_r) (omega arith))
    (lt-or-le i 16)

half-bit : (w i : ℕ) → w / 2 / 2 ^ i % 2 ≡ w / 2 ^ suc i % 2
half-bit w i =
    let p = pow-suc 2 i in
    let e : 2 * 2 ^ i ≡ 2 ^ suc i = omega arith in
    ap (λ (x : ℕ). x % 2) (div-div-eq-div-mul w 2 (2 ^ i) ∙ ap (λ (x : ℕ). w / x) e)

ones-more : (i w : ℕ) → w / 2 ^ i % 2 ≡ 0 → ones (bit_or w (2 ^ i)) ≡ ones w + 1
ones-more zero w e =
    let low : bit_or w 1 % 2 ≡ bit_or (w % 2) 1 = or_mod w 1 1 in
    let high : bit_or w 1 / 2 ≡ bit_or (w / 2) 0 = or_shr w 1 1 in
    let z : w % 2 ≡ 0 = omega arith in
    let u = ones_step w in
    rw (ones_step (bit_or w 1), low, high, z, or_zero_r) (omega arith)
ones-more (suc i) w e =
    let p = pow-suc 2 i in
    let even : 2 ^ suc i % 2 ≡ 0 = omega arith in
    let half : 2 ^ suc i / 2 ≡ 2 ^ i = omega arith in
    let low : bit_or w (2 ^ suc i) % 2 ≡ bit_or (w % 2) (2 ^ suc i % 2) = or_mod w (2 ^ suc i) 1 in
    let high : bit_or w (2 ^ suc i) / 2 ≡ bit_or (w / 2) (2 ^ suc i / 2) = or_shr w (2 ^ suc i) 1 in
    let rest = ones-more i (w / 2) (half-bit w i ∙ e) in
    let u = ones_step w in
    rw (ones_step (bit_or w (2 ^ suc i)), low, high, even, half, or_zero_r) (omega arith)

-- A bit that was not set adds one.
pub ones-new : (w i : ℕ) → i < 16 → has_bit w i ≡ false → ones (with_bit w i) ≡ ones w + 1
unfolding with_bit has_bit
ones-new w i h e =
    let z : w / 2 ^ i % 2 ≡ 0 = let ne = eqb-false (w / 2 ^ i % 2) 1 e in let m : w / 2 ^ i % 2 < 2 = mod-lt (w / 2 ^ i) (lit< tt) in omega arith in
    rw (bit-in i h) (ones-more i w z)
