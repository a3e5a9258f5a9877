-- The steps of the readers, in the code's terms.
use Rattle.std.specs.Prelude.{Some, None}
use Prim.Native.Nat.{ℕ, ◌+◌, ◌*◌, ◌-◌, ◌<◌, ◌≤◌}
use mathlib.Core.Path.{◌≡◌}
use mathlib.Core.List.{List}
use native.Mathlib.Numerals.{add-one}
use native.Mathlib.Omega.{arith}
use lib.ListN.{length, drop, get_or, drop_of_length-le}
use lib.Seq.{drop-cons}
use mathlib.Core.Logic.{inl, inr}
use Rattle.std.specs.Char.{IsNotAsciiDigit}
use borrow.Author.Tests.{lt-ltb, le-ltb}
use Rattle.text_numbers.specs.Numbers.{digits_to}

-- the digit at i, behind digits that stand for v
module _ (most : ℕ) (f : List ℕ) (v i : ℕ) where
  -- a byte that is none
  pub off : i < length f → IsNotAsciiDigit (get_or f i 0) → digits_to most v (drop i f) ≡ None
  unfolding digits_to
  off h (inl l) = rw (drop-cons f i 0 h, lt-ltb _ _ l)
  off h (inr u) = rw (drop-cons f i 0 h, le-ltb (get_or f i 0) 48 (omega arith), lt-ltb _ _ u)

  pub large : i < length f → 48 ≤ get_or f i 0 → get_or f i 0 ≤ 57 → most < v * 10 + (get_or f i 0 - 48)
      → digits_to most v (drop i f) ≡ None
  unfolding digits_to
  large h l u t = rw (drop-cons f i 0 h, le-ltb _ _ l, le-ltb _ _ u, lt-ltb _ _ t)

  pub turn : i < length f → 48 ≤ get_or f i 0 → get_or f i 0 ≤ 57 → v * 10 + (get_or f i 0 - 48) ≤ most
      → digits_to most (v * 10 + (get_or f i 0 - 48)) (drop (i + 1) f) ≡ digits_to most v (drop i f)
  unfolding digits_to
  turn h l u t = rw (add-one, drop-cons f i 0 h, le-ltb _ _ l, le-ltb _ _ u, le-ltb _ _ t)

  pub over : length f ≤ i → digits_to most v (drop i f) ≡ Some v
  unfolding digits_to
  over h = rw (drop_of_length-le f h)
