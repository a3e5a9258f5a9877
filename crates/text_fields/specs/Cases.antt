-- Worked cases, computed: what a reader can check by eye.
use Rattle.std.specs.Prelude.{◌≡◌, refl, true, false, [], ◌∷◌}
use Rattle.text_fields.specs.Quoted.{quoted}
use Rattle.text_fields.specs.Finding.{before, none_of}
use Rattle.text_fields.specs.Fields.{fields_of, field_at, line_of}
use Rattle.text_fields.specs.Decimal.{decimal}

-- "S<tab>12<tab>": a trailing tab makes one more, empty field
pub fields : fields_of (quoted "S\t12\t") ≡ (quoted "S") ∷ (quoted "12") ∷ [] ∷ []
unfolding fields_of
fields = refl

-- the empty line has one empty field; a newline parts nothing
pub no-field : (fields_of [] ≡ [] ∷ []) × (fields_of (quoted "S\n") ≡ (quoted "S\n") ∷ [])
unfolding fields_of
no-field = (refl, refl)

-- the fields of "S<tab>12" that start at 0, 2, 3 and 9
pub found : (field_at (quoted "S\t12") 0 ≡ quoted "S") × (field_at (quoted "S\t12") 2 ≡ quoted "12")
    × (field_at (quoted "S\t12") 3 ≡ quoted "2") × (field_at (quoted "S\t12") 9 ≡ [])
unfolding before
found = (refl, refl, refl, refl)

-- no tab among the two bytes of "S<tab>12" from 2 on; one is the first, and one the last, of those looked at
pub none : (none_of 2 9 (quoted "S\t12") 2 ≡ true) × (none_of 3 9 (quoted "S\t12") 1 ≡ false) × (none_of 2 9 (quoted "S\t12") 0 ≡ false)
unfolding none_of
none = (refl, refl, refl)

-- 0, 10, 9, 99, 65535 and 1000000 as text
pub texts : (decimal 0 ≡ quoted "0") × (decimal 10 ≡ quoted "10") × (decimal 9 ≡ quoted "9") × (decimal 99 ≡ quoted "99") × (decimal 65535 ≡ quoted "65535")
    × (decimal 1000000 ≡ quoted "1000000")
unfolding decimal
texts = (refl, refl, refl, refl, refl, refl)

-- a tab alone parts: a byte below it and one above do not
pub tabs-alone : (fields_of (65 ∷ 8 ∷ 0 ∷ 10 ∷ 66 ∷ []) ≡ (65 ∷ 8 ∷ 0 ∷ 10 ∷ 66 ∷ []) ∷ []) × (before 9 (8 ∷ 0 ∷ 10 ∷ 9 ∷ 66 ∷ []) ≡ 8 ∷ 0 ∷ 10 ∷ [])
unfolding fields_of before
tabs-alone = (refl, refl)

-- a line of two fields, of one, and of none
pub lines : (line_of (quoted "S" ∷ quoted "12" ∷ []) ≡ quoted "S\t12\n") × (line_of (quoted "S" ∷ []) ≡ quoted "S\n") × (line_of [] ≡ quoted "\n")
unfolding line_of
lines = (refl, refl, refl)
