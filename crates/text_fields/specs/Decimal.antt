-- The decimal text of a number.
use Rattle.std.specs.Prelude.{ℕ, zero, suc, ◌+◌, ◌/◌, ◌%◌, Bool, true, false, List, [], ◌∷◌, ◌++◌, ltb}

-- one digit for a number below ten, and else the text of its tens and the digit of its ones; the first number only has to be large enough
abbrev pub spell : ℕ → Bool → ℕ → List ℕ
spell zero single v = []
spell (suc k) true v = (48 + v) ∷ []
spell (suc k) false v = spell k (ltb (v / 10) 10) (v / 10) ++ ((48 + v % 10) ∷ [])

-- "Numbers are decimal, without leading zeros"
unfoldable pub decimal : ℕ → List ℕ
decimal v = spell (suc v) (ltb v 10) v
