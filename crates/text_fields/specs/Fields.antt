-- The fields of a line, read and written.
use Rattle.std.specs.Prelude.{ℕ, cond, List, [], ◌∷◌, ◌++◌, eqb, drop}
use Rattle.text_fields.specs.Finding.{before}

-- "Every line written ends with a newline. Fields are parted by one tab." A tab is byte 9, a newline byte 10.
unfoldable pub line_of : List (List ℕ) → List ℕ
line_of [] = 10 ∷ []
line_of (f ∷ []) = f ++ (10 ∷ [])
line_of (f ∷ g ∷ fs) = f ++ (9 ∷ line_of (g ∷ fs))

-- the first of some fields (or lines) with one byte more in front; where there is none, that byte is one
abbrev pub longer : ℕ → List (List ℕ) → List (List ℕ)
longer b [] = (b ∷ []) ∷ []
longer b (f ∷ fs) = (b ∷ f) ∷ fs

-- "Fields are parted by one tab": one field more than there are tabs, so that a trailing tab makes one more, empty field
unfoldable pub fields_of : List ℕ → List (List ℕ)
fields_of [] = [] ∷ []
fields_of (b ∷ bs) = cond (eqb b 9) ([] ∷ fields_of bs) (longer b (fields_of bs))

-- the field that starts at from: the bytes up to the next tab; past the end it is empty
abbrev pub field_at : List ℕ → ℕ → List ℕ
field_at line from = before 9 (drop from line)
