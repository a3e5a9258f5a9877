-- Four bytes held in one number: a test of all four at once, and the number that they spell.
use Rattle.std.specs.Prelude.{Option, Some, None, ℕ, zero, suc, ◌+◌, ◌*◌, ◌/◌, ◌%◌, ◌<◌, ◌≤◌, ◌≡◌, refl, Bool, true, false, cond, not, ◌&&◌, ◌||◌, leb, eqb}
use Rattle.std.proofs.Common.{sym, ap, ap₂, ◌∙◌, ⊎_elim, not-suc-le-zero, eq-or-lt_of_le, le_of_suc-le-suc, arith, lit<}
use Rattle.std.specs.Int.Bits.{bit_and, bit_or, bit_xor}
use Rattle.std.proofs.lemmas.Nat.{or_block, and_block, xor_block, or_lt, xor_lt}
use borrow.Author.Tests.{leb-true, le-leb, eq-eqb, eqb-true}
use Rattle.laws.specs.Tests.{by-test, and-left, and-right}

-- four bytes as one number, the first one lowest
abbrev pub together : ℕ → ℕ → ℕ → ℕ → ℕ
together a b c d = a + 256 * b + 65536 * c + 16777216 * d

-- the test of the code: 0xFFFFFFFF more is 1 less, in 32 bits
unfoldable pub spells_four : ℕ → Bool
spells_four x = eqb (bit_and (bit_or (x + 0x76767676) (x + 0xFFFFFFFF)) 0x80808080) 0

-- the number that the code makes of four digits
unfoldable pub valued : ℕ → ℕ
valued x = (10 * x + x / 256) % 256 * 100 + (10 * x + x / 256) / 65536 % 256

-- what the code says of four bytes held so: the number that they spell, unless it begins with 0
abbrev pub read_held : ℕ → Option ℕ
read_held x = cond (spells_four x) (Some (valued x)) None

-- the same of four bytes of a text; 0x30303030 is '0' four times
abbrev pub read_four : ℕ → ℕ → ℕ → ℕ → Option ℕ
read_four a b c d = read_held (bit_xor (together a b c d) 0x30303030)

-- the four bytes are digits, the first one is not 0, and v is the number that they spell
pub record Spelt (a b c d v : ℕ) : Type 0 where
  pub first : (49 ≤ a) × (a ≤ 57)
  pub second : (48 ≤ b) × (b ≤ 57)
  pub third : (48 ≤ c) × (c ≤ 57)
  pub fourth : (48 ≤ d) × (d ≤ 57)
  pub is : v + 53328 ≡ a * 1000 + b * 100 + c * 10 + d

-- ---- one byte, by a table of all 256

abbrev all_below : ℕ → (ℕ → Bool) → Bool
all_below zero f = true
all_below (suc k) f = f k && all_below k f

all-at : (k : ℕ) (f : ℕ → Bool) → all_below k f ≡ true → (i : ℕ) → i < k → f i ≡ true
all-at zero f e i h = absurd (not-suc-le-zero h)
all-at (suc k) f e i h =
    ⊎_elim
    (λ (z : i ≡ k). rw z (and-left (f k) (all_below k f) e))
    (λ (l : i < k). all-at k f (and-right (f k) (all_below k f) e) i l)
    (eq-or-lt_of_le (le_of_suc-le-suc h))

-- what the test says of a byte r that stands alone; it passes for 9 at most
abbrev quiet : ℕ → Bool
quiet r = eqb (bit_and (bit_or ((r + 118) % 256) r) 128) 0

abbrev quiet_rule : ℕ → Bool
quiet_rule r = not (quiet r) || leb r 9

quiet-table : all_below 256 quiet_rule ≡ true
quiet-table = refl

-- the same for the first byte, from which 1 is taken: it passes for 1 to 9
abbrev quiet_first : ℕ → Bool
quiet_first r = eqb (bit_and (bit_or ((r + 118) % 256) ((r + 255) % 256)) 128) 0

first_rule : ℕ → Bool
first_rule r = not (quiet_first r) || (leb 1 r && leb r 9)

first-table : all_below 256 first_rule ≡ true
unfolding first_rule
first-table = refl

first-nine : (r : ℕ) → r < 256 → bit_and (bit_or ((r + 118) % 256) ((r + 255) % 256)) 128 ≡ 0 → (1 ≤ r) × (r ≤ 9)
unfolding first_rule
first-nine r h e =
    let t : quiet_first r ≡ true = eq-eqb (bit_and (bit_or ((r + 118) % 256) ((r + 255) % 256)) 128) 0 e in
    let q : leb 1 r && leb r 9 ≡ true = rw t at (all-at 256 first_rule first-table r h) in
    (leb-true 1 r (and-left (leb 1 r) (leb r 9) q), leb-true r 9 (and-right (leb 1 r) (leb r 9) q))

quiet-nine : (r : ℕ) → r < 256 → bit_and (bit_or ((r + 118) % 256) r) 128 ≡ 0 → r ≤ 9
quiet-nine r h e =
    let t : quiet r ≡ true = eq-eqb (bit_and (bit_or ((r + 118) % 256) r) 128) 0 e in
    leb-true r 9 (rw t at (all-at 256 quiet_rule quiet-table r h))

-- a byte that is 9 at most with the bits of '0' taken off is a digit
abbrev digit_rule : ℕ → Bool
digit_rule r = not (leb (bit_xor r 48) 9) || eqb r (bit_xor r 48 + 48)

digit-table : all_below 256 digit_rule ≡ true
digit-table = refl

digit-is : (r : ℕ) → r < 256 → bit_xor r 48 ≤ 9 → r ≡ bit_xor r 48 + 48
digit-is r h e =
    let t : leb (bit_xor r 48) 9 ≡ true = le-leb (bit_xor r 48) 9 e in
    eqb-true r (bit_xor r 48 + 48) (rw t at (all-at 256 digit_rule digit-table r h))

-- ---- the lowest byte, and the rest

-- the test of a number passes only if its lowest byte does and the rest does, to which nothing was carried; T is what the byte before has left
step : (X S T M r : ℕ) → r < 256 → bit_and (bit_or (X * 256 + r + (S * 256 + 118)) (X * 256 + r + T * 256)) (M * 256 + 128) ≡ 0
    → (r ≤ 9) × (bit_and (bit_or (X + S) (X + T)) M ≡ 0)
step X S T M r h e =
    let carry : ℕ = (r + 118) / 256 in
    let low : ℕ = (r + 118) % 256 in
    let sum : X * 256 + r + (S * 256 + 118) ≡ (X + S + carry) * 256 + low = omega arith in
    let rest : X * 256 + r + T * 256 ≡ (X + T) * 256 + r = omega arith in
    let small : low < 256 = omega arith in
    let cut : bit_and (bit_or (X * 256 + r + (S * 256 + 118)) (X * 256 + r + T * 256)) (M * 256 + 128)
    ≡ bit_and (bit_or (X + S + carry) (X + T)) M * 256 + bit_and (bit_or low r) 128 =
    ap₂ (λ (y z : ℕ). bit_and (bit_or y z) (M * 256 + 128)) sum rest
    ∙ ap (λ (y : ℕ). bit_and y (M * 256 + 128)) (or_block 8 (X + S + carry) (X + T) low r small h)
    ∙ and_block 8 (bit_or (X + S + carry) (X + T)) M (bit_or low r) 128 (or_lt 8 low r small h) (lit< tt) in
    let both : bit_and (bit_or (X + S + carry) (X + T)) M * 256 + bit_and (bit_or low r) 128 ≡ 0 = sym cut ∙ e in
    let nine : r ≤ 9 = quiet-nine r h (omega arith) in
    let none : X + S + carry ≡ X + S = omega arith in
    (nine, ap (λ (y : ℕ). bit_and (bit_or y (X + T)) M) (sym none) ∙ omega arith)

-- the first byte: 1 is taken from it, and 1 more carried to the rest
first-step : (X S U M r : ℕ) → r < 256 → bit_and (bit_or (X * 256 + r + (S * 256 + 118)) (X * 256 + r + (U * 256 + 255))) (M * 256 + 128) ≡ 0
    → (1 ≤ r) × (r ≤ 9) × (bit_and (bit_or (X + S) (X + (U + 1))) M ≡ 0)
first-step X S U M r h e =
    let carry : ℕ = (r + 118) / 256 in
    let low : ℕ = (r + 118) % 256 in
    let more : ℕ = (r + 255) / 256 in
    let less : ℕ = (r + 255) % 256 in
    let sum : X * 256 + r + (S * 256 + 118) ≡ (X + S + carry) * 256 + low = omega arith in
    let rest : X * 256 + r + (U * 256 + 255) ≡ (X + U + more) * 256 + less = omega arith in
    let small : low < 256 = omega arith in
    let small' : less < 256 = omega arith in
    let cut : bit_and (bit_or (X * 256 + r + (S * 256 + 118)) (X * 256 + r + (U * 256 + 255))) (M * 256 + 128)
    ≡ bit_and (bit_or (X + S + carry) (X + U + more)) M * 256 + bit_and (bit_or low less) 128 =
    ap₂ (λ (y z : ℕ). bit_and (bit_or y z) (M * 256 + 128)) sum rest
    ∙ ap (λ (y : ℕ). bit_and y (M * 256 + 128)) (or_block 8 (X + S + carry) (X + U + more) low less small small')
    ∙ and_block 8 (bit_or (X + S + carry) (X + U + more)) M (bit_or low less) 128 (or_lt 8 low less small small') (lit< tt) in
    let both : bit_and (bit_or (X + S + carry) (X + U + more)) M * 256 + bit_and (bit_or low less) 128 ≡ 0 = sym cut ∙ e in
    let nine : (1 ≤ r) × (r ≤ 9) = first-nine r h (omega arith) in
    let least : 1 ≤ r = nine.0 in
    let most : r ≤ 9 = nine.1 in
    let none : X + S + carry ≡ X + S = omega arith in
    let one : X + U + more ≡ X + (U + 1) = omega arith in
    (least, most, ap₂ (λ (y z : ℕ). bit_and (bit_or y z) M) (sym none) (sym one) ∙ omega arith)

-- four bytes that pass together are 9 at most, each of them, and the first is not 0
four-pass : (a b c d : ℕ) → a < 256 → b < 256 → c < 256 → d < 256
    → bit_and (bit_or (together a b c d + 0x76767676) (together a b c d + 0xFFFFFFFF)) 0x80808080 ≡ 0
    → (1 ≤ a) × (a ≤ 9) × (b ≤ 9) × (c ≤ 9) × (d ≤ 9)
four-pass a b c d ha hb hc hd e =
    let w : together a b c d ≡ ((d * 256 + c) * 256 + b) * 256 + a = omega arith in
    let first =
    first-step ((d * 256 + c) * 256 + b) 0x767676 0xFFFFFF 0x808080 a ha
    (ap (λ (x : ℕ). bit_and (bit_or (x + 0x76767676) (x + 0xFFFFFFFF)) 0x80808080) (sym w) ∙ e) in
    let second = step (d * 256 + c) 0x7676 0x10000 0x8080 b hb first.2 in
    let third = step d 0x76 0x100 0x80 c hc second.1 in
    let alone : 0 * 256 + d ≡ d = omega arith in
    let fourth = step 0 0 1 0 d hd (ap (λ (x : ℕ). bit_and (bit_or (x + 118) (x + 256)) 128) alone ∙ third.1) in
    (first.0, first.1, second.0, third.0, fourth.0)

-- exclusive or goes byte by byte
apart : (a b c d : ℕ) → a < 256 → b < 256 → c < 256 → d < 256
    → bit_xor (together a b c d) 0x30303030 ≡ together (bit_xor a 48) (bit_xor b 48) (bit_xor c 48) (bit_xor d 48)
apart a b c d ha hb hc hd =
    let w : together a b c d ≡ ((d * 256 + c) * 256 + b) * 256 + a = omega arith in
    ap (λ (x : ℕ). bit_xor x 0x30303030) w
    ∙ xor_block 8 ((d * 256 + c) * 256 + b) 0x303030 a 48 ha (lit< tt)
    ∙ ap (λ (x : ℕ). x * 256 + bit_xor a 48)
    (xor_block 8 (d * 256 + c) 0x3030 b 48 hb (lit< tt)
    ∙ ap (λ (x : ℕ). x * 256 + bit_xor b 48) (xor_block 8 d 0x30 c 48 hc (lit< tt)))
    ∙ omega arith

-- ---- two pairs at once

low-byte : (l h : ℕ) → l < 256 → (h * 256 + l) % 256 ≡ l
low-byte l h a = omega arith

third-byte : (l m n o : ℕ) → l < 256 → m < 256 → n < 256 → (((o * 256 + n) * 256 + m) * 256 + l) / 65536 % 256 ≡ n
third-byte l m n o a b c =
    let up : ((o * 256 + n) * 256 + m) * 256 + l ≡ (o * 256 + n) * 65536 + (m * 256 + l) = omega arith in
    let cut : ((o * 256 + n) * 65536 + (m * 256 + l)) / 65536 ≡ o * 256 + n = omega arith in
    ap (λ (y : ℕ). y / 65536 % 256) up ∙ ap (λ (y : ℕ). y % 256) cut ∙ low-byte n o c

above : (a b c d : ℕ) → a < 256 → together a b c d / 256 ≡ b + 256 * c + 65536 * d
above a b c d h = omega arith

pairs : (a b c d x : ℕ) → a ≤ 9 → b ≤ 9 → c ≤ 9 → d ≤ 9 → x ≡ together a b c d → valued x ≡ a * 1000 + b * 100 + c * 10 + d
unfolding valued
pairs a b c d x ha hb hc hd e =
    let up : x / 256 ≡ b + 256 * c + 65536 * d = ap (λ (y : ℕ). y / 256) e ∙ above a b c d (omega arith) in
    let y : 10 * x + x / 256 ≡ ((10 * d * 256 + (10 * c + d)) * 256 + (10 * b + c)) * 256 + (10 * a + b) = omega (arith, e, up) in
    let low : (10 * x + x / 256) % 256 ≡ 10 * a + b =
    ap (λ (z : ℕ). z % 256) y ∙ low-byte (10 * a + b) ((10 * d * 256 + (10 * c + d)) * 256 + (10 * b + c)) (omega arith) in
    let high : (10 * x + x / 256) / 65536 % 256 ≡ 10 * c + d =
    ap (λ (z : ℕ). z / 65536 % 256) y ∙ third-byte (10 * a + b) (10 * b + c) (10 * c + d) (10 * d) (omega arith) (omega arith) (omega arith) in
    rw (low, high) (omega arith)

-- ---- four bytes that pass the test

module _ (a b c d x : ℕ) (ha : a < 256) (hb : b < 256) (hc : c < 256) (hd : d < 256) (ex : x ≡ bit_xor (together a b c d) 0x30303030) where
  digits : x ≡ together (bit_xor a 48) (bit_xor b 48) (bit_xor c 48) (bit_xor d 48)
  digits = ex ∙ apart a b c d ha hb hc hd

  module _ (t : spells_four x ≡ true) where
    each-nine : (1 ≤ bit_xor a 48) × (bit_xor a 48 ≤ 9) × (bit_xor b 48 ≤ 9) × (bit_xor c 48 ≤ 9) × (bit_xor d 48 ≤ 9)
    unfolding spells_four
    each-nine =
        four-pass (bit_xor a 48) (bit_xor b 48) (bit_xor c 48) (bit_xor d 48)
        (xor_lt 8 a 48 ha (lit< tt)) (xor_lt 8 b 48 hb (lit< tt)) (xor_lt 8 c 48 hc (lit< tt)) (xor_lt 8 d 48 hd (lit< tt))
        (ap (λ (y : ℕ). bit_and (bit_or (y + 0x76767676) (y + 0xFFFFFFFF)) 0x80808080) (sym digits)
        ∙ eqb-true (bit_and (bit_or (x + 0x76767676) (x + 0xFFFFFFFF)) 0x80808080) 0 t)

    -- so x is small, and what is made of it wraps nowhere
    pub nine-most : x ≤ 0x09090909
    nine-most =
        let n = each-nine in
        let n0 = n.1 in let n1 = n.2 in let n2 = n.3 in let n3 = n.4 in let e = digits in omega arith

    pub spelt-is : (v : ℕ) → v ≡ valued x → Spelt a b c d v
    spelt-is v ev =
        let A : ℕ = bit_xor a 48 in
        let B : ℕ = bit_xor b 48 in
        let C : ℕ = bit_xor c 48 in
        let D : ℕ = bit_xor d 48 in
        let nine = each-nine in
        let da : a ≡ A + 48 = digit-is a ha nine.1 in
        let db : b ≡ B + 48 = digit-is b hb nine.2 in
        let dc : c ≡ C + 48 = digit-is c hc nine.3 in
        let dd : d ≡ D + 48 = digit-is d hd nine.4 in
        record {
          first = in-range-first a A da nine.1 nine.0;
          second = in-range b B db nine.2;
          third = in-range c C dc nine.3;
          fourth = in-range d D dd nine.4;
          is = in-all a b c d A B C D v da db dc dd (ev ∙ pairs A B C D x nine.1 nine.2 nine.3 nine.4 digits);
        }
      where
        in-range : (r A : ℕ) → r ≡ A + 48 → A ≤ 9 → (48 ≤ r) × (r ≤ 57)
        in-range r A e h = (omega arith, omega arith)

        in-range-first : (r A : ℕ) → r ≡ A + 48 → A ≤ 9 → 1 ≤ A → (49 ≤ r) × (r ≤ 57)
        in-range-first r A e h n = (omega arith, omega arith)

        in-all : (a b c d A B C D v : ℕ) → a ≡ A + 48 → b ≡ B + 48 → c ≡ C + 48 → d ≡ D + 48 → v ≡ A * 1000 + B * 100 + C * 10 + D
            → v + 53328 ≡ a * 1000 + b * 100 + c * 10 + d
        in-all a b c d A B C D v ea eb ec ed e = omega arith

-- ---- what the code says of them

module _ (x : ℕ) where
  pub held-spelt : (v : ℕ) → spells_four x ≡ true → v ≡ valued x → Some v ≡ read_held x
  held-spelt v t e = rw (t, e)

  pub held-not : spells_four x ≡ false → None ≡ read_held x
  held-not t = rw t

  held-is : (v : ℕ) → read_held x ≡ Some v → (spells_four x ≡ true) × (v ≡ valued x)
  held-is v e =
      by-test (spells_four x)
      (λ t. let s : Some (valued x) ≡ Some v = rw t at e in (t, cc))
      (λ t. let s : ◌≡◌ {A = Option ℕ} None (Some v) = rw t at e in absurd (let k : ◌≡◌ {A = ℕ} 0 1 = cc in omega arith))

-- four bytes that are said to spell a number do
pub four-spelt : (a b c d v : ℕ) → a < 256 → b < 256 → c < 256 → d < 256 → read_four a b c d ≡ Some v → Spelt a b c d v
four-spelt a b c d v ha hb hc hd e =
    let h = held-is (bit_xor (together a b c d) 0x30303030) v e in
    spelt-is a b c d (bit_xor (together a b c d) 0x30303030) ha hb hc hd refl h.0 v h.1
