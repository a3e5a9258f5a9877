-- A number that may have a minus, read in two steps: where its digits start, and then its sign.
use Prim.Native.Nat.{ℕ, suc, ◌+◌, ◌≤◌}
use Rattle.std.specs.Prelude.{◌≡◌, refl, Bool, true, false, cond, ◌&&◌, List, [], ◌∷◌, ltb, eqb, length, drop, get_or, Option, Some, None, ℤ}
use Rattle.std.proofs.Common.{sym, ◌∙◌, drop_of_length-le, drop-cons}
use Rattle.std.proofs.Math.Path.{ap}
use native.Mathlib.Omega.{arith}
use borrow.Author.Tests.{lt-ltb, le-ltb, ltb-true, eqb-true}
use Rattle.laws.specs.Tests.{by-test, by-order, clash, and-left, and-right}
use Rattle.text_fields.specs.Finding.{before}
use Rattle.text_fields.specs.Fields.{field_at}
use Rattle.text_numbers.specs.Numbers.{number_to, read_number, above_of, below_of, read_signed}
use Rattle.text_numbers.specs.Canonical.{number-text, number-read, number-malformed, decimal-one}

-- a number up to most
abbrev pub up_to : ℕ → ℕ → Option ℕ
up_to most v = cond (ltb most v) None (Some v)

-- a number with its sign: -32768..32767, and no -0
unfoldable pub with_sign : Bool → ℕ → Option ℤ
with_sign below v = cond below (below_of (up_to 32768 v)) (above_of (up_to 32767 v))

-- the same of a field that may be none
abbrev pub signed_number : Bool → Option ℕ → Option ℤ
signed_number below (Some v) = with_sign below v
signed_number below None = None

-- whether a minus stands at a place
abbrev pub has_minus : List ℕ → ℕ → Bool
has_minus line from = ltb from (length line) && eqb (get_or line from 0) 45

-- where the digits start
unfoldable pub past_minus : List ℕ → ℕ → ℕ
past_minus line from = cond (has_minus line from) (from + 1) from

-- ---- a smaller range reads what is in it

cut : ℕ → Option ℕ → Option ℕ
cut most (Some v) = up_to most v
cut most None = None

cut-is : (most : ℕ) → most ≤ 65535 → (f : List ℕ) (n : Option ℕ) → read_number f ≡ n → number_to most f ≡ cut most n
unfolding cut
cut-is most m f (Some v) e =
    let t = number-text 65535 f v e in
    by-order most v
    (λ h. rw (lt-ltb most v h) (number-malformed most f (λ w l q. let k = decimal-one w v (sym q ∙ t.0) in omega arith)))
    (λ h. rw (le-ltb most v h) (ap (number_to most) t.0 ∙ number-read most v h))
cut-is most m f None e =
    number-malformed most f (λ w l q. clash refl (ap is_value (sym (number-read 65535 w (omega arith)) ∙ ap read_number (sym q) ∙ e)))
  where
    is_value : Option ℕ → Bool
    is_value (Some v) = true
    is_value None = false

signed-above : (f : List ℕ) → above_of (number_to 32767 f) ≡ signed_number false (read_number f)
unfolding cut with_sign
signed-above f = ap above_of (cut-is 32767 (omega arith) f (read_number f) refl) ∙ above (read_number f)
  where
    above : (n : Option ℕ) → above_of (cut 32767 n) ≡ signed_number false n
    above (Some v) = refl
    above None = refl

signed-below : (f : List ℕ) → below_of (number_to 32768 f) ≡ signed_number true (read_number f)
unfolding cut with_sign
signed-below f = ap below_of (cut-is 32768 (omega arith) f (read_number f) refl) ∙ below (read_number f)
  where
    below : (n : Option ℕ) → below_of (cut 32768 n) ≡ signed_number true n
    below (Some v) = refl
    below None = refl

no-minus : (b : ℕ) (bs : List ℕ) → eqb b 45 ≡ false → read_signed (before 9 (b ∷ bs)) ≡ above_of (number_to 32767 (before 9 (b ∷ bs)))
unfolding read_signed before number_to
no-minus b bs t = by-test (eqb b 9) (λ u. rw u) (λ u. rw (u, t))

no-field : (x : List ℕ) → x ≡ [] → read_signed (before 9 x) ≡ above_of (number_to 32767 (before 9 x))
unfolding read_signed before number_to
no-field x e = rw e

-- a field that starts with a minus, and one that doesn't
module _ (line : List ℕ) (from : ℕ) where
  minus-first : ltb from (length line) ≡ true → eqb (get_or line from 0) 45 ≡ true → field_at line from ≡ 45 ∷ field_at line (from + 1)
  unfolding before
  minus-first s t =
      let h = ltb-true from (length line) s in
      let e = eqb-true (get_or line from 0) 45 t in
      let k : suc from ≡ from + 1 = omega arith in
      rw (drop-cons line from 0 h, e) (ap (λ (j : ℕ). 45 ∷ before 9 (drop j line)) k)

  pub minus-field : has_minus line from ≡ true → field_at line from ≡ 45 ∷ field_at line (from + 1)
  minus-field t = minus-first (and-left _ _ t) (and-right (ltb from (length line)) _ t)

  pub minus-signed : has_minus line from ≡ true → read_signed (field_at line from) ≡ signed_number true (read_number (field_at line (from + 1)))
  unfolding read_signed
  minus-signed t =
      ap read_signed (minus-first (and-left _ _ t) (and-right (ltb from (length line)) _ t)) ∙ signed-below (field_at line (from + 1))

  pub plain-signed : has_minus line from ≡ false → read_signed (field_at line from) ≡ signed_number false (read_number (field_at line from))
  plain-signed t =
      by-order from (length line)
      (λ h.
      ap (λ (x : List ℕ). read_signed (before 9 x)) (drop-cons line from 0 h)
      ∙ no-minus (get_or line from 0) (drop (suc from) line) (rw (lt-ltb from (length line) h) at t)
      ∙ ap (λ (x : List ℕ). above_of (number_to 32767 (before 9 x))) (sym (drop-cons line from 0 h)))
      (λ h. no-field (drop from line) (drop_of_length-le line h))
      ∙ signed-above (field_at line from)
