-- Worked cases, computed: what a reader can check by eye.
use Rattle.std.specs.Prelude.{◌≡◌, refl, [], ◌∷◌, length}
use Rattle.text_fields.specs.Quoted.{quoted}
use Rattle.text_fields.specs.Fields.{line_of}
use Rattle.text_fields.specs.Decimal.{decimal}
use Rattle.text_writing.specs.Placing.{placed, place_behind}
use Rattle.text_writing.specs.Rows.{row_text, room, roomed, field_text, front_text, back_text}

-- two bytes at place 1 of four, and at place 3, where there is no room
pub puts : (placed (1 ∷ 2 ∷ 3 ∷ 4 ∷ []) 1 (8 ∷ 9 ∷ []) ≡ 1 ∷ 8 ∷ 9 ∷ 4 ∷ []) × (place_behind (1 ∷ 2 ∷ 3 ∷ 4 ∷ []) 1 (8 ∷ 9 ∷ []) ≡ 3)
    × (placed (1 ∷ 2 ∷ 3 ∷ 4 ∷ []) 3 (8 ∷ 9 ∷ []) ≡ 1 ∷ 2 ∷ 3 ∷ 4 ∷ []) × (place_behind (1 ∷ 2 ∷ 3 ∷ 4 ∷ []) 3 (8 ∷ 9 ∷ []) ≡ 3)
unfolding placed place_behind
puts = (refl, refl, refl, refl)

-- two bytes that have just room at the end, and none in no room
pub just-room : (placed (1 ∷ 2 ∷ 3 ∷ []) 1 (8 ∷ 9 ∷ []) ≡ 1 ∷ 8 ∷ 9 ∷ []) × (place_behind (1 ∷ 2 ∷ 3 ∷ []) 1 (8 ∷ 9 ∷ []) ≡ 3) × (place_behind [] 0 [] ≡ 0)
unfolding placed place_behind
just-room = (refl, refl, refl)

-- a row of five unlike numbers, and the same in the parts that the code writes
pub rows : (row_text 1 20 3 512 21 ≡ quoted "1\t20\t3\t512\t21\n") × (field_text 17 10 ≡ quoted "17\n")
    × (front_text 1 20 3 ≡ quoted "1\t20\t3\t") × (back_text 512 21 ≡ quoted "512\t21\n")
unfolding row_text line_of front_text back_text decimal
rows = (refl, refl, refl, refl)

-- the longest row, a number of 32 bits and four of 16; behind byte 3 a buffer of 38 bytes has room for it, and one of 37 has not
pub rooms : (length (row_text 4294967295 65535 65535 65535 65535) ≡ room)
    × (roomed 38 3 (65 ∷ []) ≡ 65 ∷ [])
    × (roomed 37 3 (65 ∷ []) ≡ [])
unfolding roomed row_text line_of decimal
rooms = (refl, refl, refl)
