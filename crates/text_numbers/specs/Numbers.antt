-- A field as a number: "Numbers are decimal, without leading zeros or `-0`". What these definitions say of the text of a number is in Canonical.
use Rattle.std.specs.Prelude.{ℕ, zero, suc, ◌+◌, ◌*◌, ◌-◌, cond, List, [], ◌∷◌, ltb, eqb, ℤ, pos, negsuc, Option, Some, None}
use Rattle.text_fields.specs.Decimal.{decimal}

-- the digits that are left, behind digits that stand for v: no other byte, and never above most
unfoldable pub digits_to : ℕ → ℕ → List ℕ → Option ℕ
digits_to most v [] = Some v
digits_to most v (b ∷ bs) =
    cond (ltb b 48) None
    (cond (ltb 57 b) None
    (cond (ltb most (v * 10 + (b - 48))) None
    (digits_to most (v * 10 + (b - 48)) bs)))

-- a field as a number up to most: not empty, and no 0 in front of other digits
unfoldable pub number_to : ℕ → List ℕ → Option ℕ
number_to most [] = None
number_to most (b ∷ []) = digits_to most 0 (b ∷ [])
number_to most (b ∷ c ∷ bs) = cond (eqb b 48) None (digits_to most 0 (b ∷ c ∷ bs))

-- "every other field 0..65535"
abbrev pub read_number : List ℕ → Option ℕ
read_number f = number_to 65535 f

-- minus v
abbrev pub negative : ℕ → ℤ
negative zero = pos zero
negative (suc v) = negsuc v

-- a number as it is
abbrev pub above_of : Option ℕ → Option ℤ
above_of (Some v) = Some (pos v)
above_of None = None

-- a number behind a minus; there is no -0
abbrev pub below_of : Option ℕ → Option ℤ
below_of (Some zero) = None
below_of (Some (suc v)) = Some (negative (suc v))
below_of None = None

-- "The current is -32768..32767": a minus is byte 45
unfoldable pub read_signed : List ℕ → Option ℤ
read_signed [] = None
read_signed (b ∷ bs) = cond (eqb b 45) (below_of (number_to 32768 bs)) (above_of (number_to 32767 (b ∷ bs)))

-- the decimal text of a signed number
unfoldable pub signed_text : ℤ → List ℕ
signed_text (pos v) = decimal v
signed_text (negsuc v) = 45 ∷ decimal (suc v)
