-- The table of words, computed: which words are reserved, where the protections stand, and where the page ends.
-- Assumes nothing.
use Rattle.std.specs.Prelude.{◌≡◌, refl, Bool, true, false, cond, List, [], ◌∷◌, ◌++◌, map, ℕ, eqb, replicate, set}
use Rattle.laws.specs.Numbered.{count_from}
use Rattle.units.specs.Signed.{signed_of}
use Rattle.protections.specs.Table.{row_at, table}
use Rattle.page_words.specs.Ranges.{word_at, within, level_of}
use Rattle.page_faults.specs.Kinds.{short_layout, long_layout, layout_of, check_at, bytes_of, trip_word, kind_of}
use Rattle.page_faults.specs.Met.{order_met, on_row, kind_meets, meets}
use Rattle.page_faults.specs.declared.Layout.{Layout}
use Rattle.page_faults.specs.declared.Kind.{Kind}
use Rattle.page_faults.specs.declared.Kind.TheVariants.{Mark, Setting, Reserved, Trip, Release, Limit, Last, Outside}

-- "128 bytes, 64 words", and the check byte is that "of bytes 0..126". Protection 0 begins at word 16, protection 7 at word 51.
sizes : (bytes_of short_layout ∷ check_at short_layout ∷ short_layout.mark ∷ trip_word 0 ∷ trip_word 7 ∷ []) ≡ (128 ∷ 127 ∷ 0x17A4 ∷ 16 ∷ 51 ∷ [])
sizes = refl

-- "160 bytes, mark 0x17A5", and the check byte in byte 159 is that "of bytes 0..158". Protections 8 and 9 begin at words 56 and 61, and
-- word 65 is the last of the ten's.
long-sizes
    : (bytes_of long_layout ∷ check_at long_layout ∷ long_layout.mark ∷ trip_word 8 ∷ trip_word 9 ∷ trip_word long_layout.protections ∷ [])
    ≡ (160 ∷ 159 ∷ 0x17A5 ∷ 56 ∷ 61 ∷ 66 ∷ [])
long-sizes = refl

-- The two lengths have their layouts.
by-length : (layout_of 128 ∷ layout_of 160 ∷ []) ≡ (short_layout ∷ long_layout ∷ [])
by-length = refl

-- The words of a layout, among some numbers, of which a test holds.
abbrev those : Layout → (Kind → Bool) → List ℕ → List ℕ
those l test [] = []
those l test (i ∷ is) = cond (test (kind_of l i)) (i ∷ those l test is) (those l test is)

abbrev is_reserved : Kind → Bool
is_reserved Mark = false
is_reserved (Setting low high) = false
is_reserved Reserved = true
is_reserved (Trip p) = false
is_reserved (Release p) = false
is_reserved (Limit low high) = false
is_reserved Last = false
is_reserved Outside = false

-- "9..15 reserved 0", "56..62 reserved 0".
reserved-words : those short_layout is_reserved (count_from 0 256) ≡ (count_from 9 7 ++ count_from 56 7)
unfolding kind_of
reserved-words = refl

-- "Words 9 to 15, words 66 to 78": words 56 to 62 are not among them.
long-reserved-words : those long_layout is_reserved (count_from 0 256) ≡ (count_from 9 7 ++ count_from 66 13)
unfolding kind_of
long-reserved-words = refl

-- Whether a word is the trip or the release word of protection p.
abbrev is_trip : ℕ → Kind → Bool
is_trip p Mark = false
is_trip p (Setting low high) = false
is_trip p Reserved = false
is_trip p (Trip q) = eqb q.0 p
is_trip p (Release q) = false
is_trip p (Limit low high) = false
is_trip p Last = false
is_trip p Outside = false

abbrev is_release : ℕ → Kind → Bool
is_release p Mark = false
is_release p (Setting low high) = false
is_release p Reserved = false
is_release p (Trip q) = false
is_release p (Release q) = eqb q.0 p
is_release p (Limit low high) = false
is_release p Last = false
is_release p Outside = false

-- Each of the eight protections has one trip word and, behind it, one release word.
level-words
    : (map (λ p. those short_layout (is_trip p) (count_from 0 256)) (count_from 0 9)
    ++ map (λ p. those short_layout (is_release p) (count_from 0 256)) (count_from 0 9))
    ≡ ((16 ∷ []) ∷ (21 ∷ []) ∷ (26 ∷ []) ∷ (31 ∷ []) ∷ (36 ∷ []) ∷ (41 ∷ []) ∷ (46 ∷ []) ∷ (51 ∷ []) ∷ []
    ∷ (17 ∷ []) ∷ (22 ∷ []) ∷ (27 ∷ []) ∷ (32 ∷ []) ∷ (37 ∷ []) ∷ (42 ∷ []) ∷ (47 ∷ []) ∷ (52 ∷ []) ∷ [] ∷ [])
unfolding kind_of
level-words = refl

-- On the long page 8 and 9 have theirs behind these, and there is no 10.
long-level-words
    : (map (λ p. those long_layout (is_trip p) (count_from 0 256)) (count_from 7 4)
    ++ map (λ p. those long_layout (is_release p) (count_from 0 256)) (count_from 7 4))
    ≡ ((51 ∷ []) ∷ (56 ∷ []) ∷ (61 ∷ []) ∷ [] ∷ (52 ∷ []) ∷ (57 ∷ []) ∷ (62 ∷ []) ∷ [] ∷ [])
unfolding kind_of
long-level-words = refl

-- The words that row 5 refuses on a page of these bytes.
abbrev fifth : Layout → List ℕ → List ℕ → List ℕ
fifth l b [] = []
fifth l b (i ∷ is) = cond (meets l 5 b i) (fifth l b is) (i ∷ fifth l b is)

-- "On a 160-byte page refusal 5 looks at words 9 to 15, words 66 to 78 and byte 158, which is named as word 79": where every byte is 1.
long-fifth : fifth long_layout (replicate 160 1) (count_from 0 256) ≡ (count_from 9 7 ++ count_from 66 14)
unfolding meets kind_of kind_meets on_row word_at
long-fifth = refl

-- Byte 126 is word 63 of a short page, and a protection's on a long one; byte 158 is word 79; the check byte is asked for by row 4 alone.
last-bytes
    : (fifth short_layout (set (replicate 128 0) 126 1) (count_from 0 64) ∷ fifth long_layout (set (replicate 160 0) 126 1) (count_from 0 80)
    ∷ fifth long_layout (set (replicate 160 0) 158 1) (count_from 0 80) ∷ fifth long_layout (set (replicate 160 0) 159 1) (count_from 0 80) ∷ [])
    ≡ ((63 ∷ []) ∷ [] ∷ (79 ∷ []) ∷ [] ∷ [])
unfolding meets kind_of kind_meets on_row word_at
last-bytes = refl

-- No row asks anything of what is no word of the page, whatever bytes there are: words 64 and 65 of 132 bytes that are all 1, and word 80
-- of 164.
past-the-last
    : map (λ row. meets short_layout row (replicate 132 1) 64) (count_from 0 10) ++ map (λ row. meets short_layout row (replicate 132 1) 65) (count_from 0 10)
    ++ map (λ row. meets long_layout row (replicate 164 1) 80) (count_from 0 10)
    ≡ replicate 30 true
unfolding meets kind_of kind_meets on_row word_at
past-the-last = refl

-- "There is no other reason to refuse": K of 5 with two cells; a floor and a difference of 6000 mV each; a detection current of 32767 mA.
abbrev free : List ℕ
free = set (set (set (set (set (set (set (set (replicate 128 0) 2 2) 4 5) 8 0x70) 9 0x17) 10 0x70) 11 0x17) 12 0xFF) 13 0x7F

no-other-setting : map (meets short_layout 6 free) (1 ∷ 2 ∷ 4 ∷ 5 ∷ 6 ∷ []) ≡ replicate 5 true
unfolding meets kind_of kind_meets on_row word_at within
no-other-setting = refl

-- An over charge trip below 0 mA, an over discharge and a short trip above 0 mA, a cell trip of 1 and one of 6000 mV, and a heat trip below zero
-- are levels as any other: each is held against its own release level alone.
no-other-order
    : (order_met 2 0xFFFF 0xFFFE ∷ order_met 3 5 6 ∷ order_met 4 5 6 ∷ order_met 0 1 0 ∷ order_met 0 6000 5999 ∷ order_met 1 0 1 ∷ order_met 1 5999 6000
    ∷ order_met 5 0xFFFF 0xFFFE ∷ order_met 8 119 120 ∷ [])
    ≡ replicate 9 true
unfolding order_met level_of signed_of row_at table
no-other-order = refl

-- Cells are compared as they stand, currents and temperatures as signed numbers: 0xFFFF is 65535 mV, but -1 mA and -1 degree.
in_order
    : (order_met 0 0xFFFF 5 ∷ order_met 1 5 0xFFFF ∷ order_met 2 5 0xFFFF ∷ order_met 3 0xFFFF 5 ∷ order_met 4 0xFFFF 5 ∷ order_met 5 5 0xFFFF
    ∷ order_met 6 5 0xFFFF ∷ order_met 7 5 0xFFFF ∷ order_met 8 0xFFFF 5 ∷ order_met 9 0xFFFF 5 ∷ [])
    ≡ replicate 10 true
unfolding order_met level_of signed_of row_at table
in_order = refl

out_of_order
    : (order_met 0 5 0xFFFF ∷ order_met 1 0xFFFF 5 ∷ order_met 2 0xFFFF 5 ∷ order_met 3 5 0xFFFF ∷ order_met 4 5 0xFFFF ∷ order_met 5 0xFFFF 5
    ∷ order_met 6 0xFFFF 5 ∷ order_met 7 0xFFFF 5 ∷ order_met 8 5 0xFFFF ∷ order_met 9 5 0xFFFF ∷ [])
    ≡ replicate 10 false
unfolding order_met level_of signed_of row_at table
out_of_order = refl
