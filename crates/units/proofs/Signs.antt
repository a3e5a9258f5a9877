-- The library's casts between a word and a signed number are the two conversions.
-- Assumes nothing.
use Rattle.std.proofs.Common.{◌≡◌, sym, ap, ◌∙◌, ℕ, suc, ◌-◌, ◌<◌, arith, w16}
use Rattle.std.specs.Prelude.{ℤ, pos, negsuc}
use Rattle.std.specs.Int.{cast_signed, cast_unsigned}
use Rattle.std.specs.Int.Signed.{mag}
use Rattle.std.proofs.lemmas.Int.{to_z_pos, of_z-to_z}
use Rattle.std.proofs.Math.Facts.{to_z-neg}
use Rattle.laws.specs.Tests.{by-order}
use Rattle.units.specs.Signed.{signed_of, word_of, signed-low, signed-high, signed-word}

pub signed-is : (x : ℕ) → x < 65536 → cast_signed w16 x ≡ signed_of x
signed-is x h =
    by-order x 32768
    (λ q. to_z_pos w16 x q ∙ sym (signed-low x q))
    (λ q. let e : x ≡ 65536 - suc (65535 - x) = omega arith in
    ap (cast_signed w16) e ∙ to_z-neg w16 (65535 - x) (omega arith) ∙ sym (signed-high x q h))

word-small : (z : ℤ) → mag z < 32768 → word_of z < 65536
unfolding word_of
word-small (pos k) h = omega arith
word-small (negsuc k) h = omega arith

pub word-is : (z : ℤ) → mag z < 32768 → cast_unsigned w16 z ≡ word_of z
word-is z h =
    let s = word-small z h in
    ap (cast_unsigned w16) (sym (signed-word z h) ∙ sym (signed-is (word_of z) s)) ∙ of_z-to_z w16 (word_of z) s
