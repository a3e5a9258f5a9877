-- Words, ranges and levels worked by hand.
-- Assumes nothing.
use Rattle.std.specs.Prelude.{◌≡◌, refl, Bool, true, false, List, [], ◌∷◌, map, ℕ, pos, negsuc}
use Rattle.units.specs.Signed.{signed_of}
use Rattle.protections.specs.declared.Quantity.{Quantity}
use Rattle.protections.specs.declared.Quantity.TheVariants.{HighestCell, LowestCell, Current, Temperature1, Temperature2}
use Rattle.page_words.specs.Ranges.{word_at, within, degrees_fit, level_fits, level_of}

-- The user's own cut-off: 4250 is 0x109A, low byte first; read backwards it would be 39440. Past the end a word reads as 0.
words
    : (map (word_at (0x9A ∷ 0x10 ∷ 0x36 ∷ 0x10 ∷ [])) (0 ∷ 1 ∷ 2 ∷ []) ∷ map (word_at (0x10 ∷ 0x9A ∷ 0x01 ∷ [])) (0 ∷ 1 ∷ [])
    ∷ [])
    ≡ ((4250 ∷ 4150 ∷ 0 ∷ []) ∷ (39440 ∷ 1 ∷ []) ∷ [])
unfolding word_at
words = refl

-- Both ends of a range belong to it.
ends : map (within 2 10) (1 ∷ 2 ∷ 10 ∷ 11 ∷ []) ≡ (false ∷ true ∷ true ∷ false ∷ [])
unfolding within
ends = refl

abbrev quantities : List Quantity
quantities = HighestCell ∷ LowestCell ∷ Current ∷ Temperature1 ∷ Temperature2 ∷ []

-- Which of the five quantities may have the word as a level: "0..6000 for cells, any signed 16-bit value for current, -40..120 (signed)
-- for temperature". 0xFFD8 is -40, 0xFFD7 is -41.
abbrev fitting : ℕ → List Bool
fitting x = map (λ q. level_fits q x) quantities

levels-fit
    : map fitting (0 ∷ 120 ∷ 121 ∷ 6000 ∷ 6001 ∷ 0x7FFF ∷ 0x8000 ∷ 0xFFD7 ∷ 0xFFD8 ∷ 0xFFFF ∷ [])
    ≡ ((true ∷ true ∷ true ∷ true ∷ true ∷ [])
    ∷ (true ∷ true ∷ true ∷ true ∷ true ∷ [])
    ∷ (true ∷ true ∷ true ∷ false ∷ false ∷ [])
    ∷ (true ∷ true ∷ true ∷ false ∷ false ∷ [])
    ∷ (false ∷ false ∷ true ∷ false ∷ false ∷ [])
    ∷ (false ∷ false ∷ true ∷ false ∷ false ∷ [])
    ∷ (false ∷ false ∷ true ∷ false ∷ false ∷ [])
    ∷ (false ∷ false ∷ true ∷ false ∷ false ∷ [])
    ∷ (false ∷ false ∷ true ∷ true ∷ true ∷ [])
    ∷ (false ∷ false ∷ true ∷ true ∷ true ∷ [])
    ∷ [])
unfolding level_fits degrees_fit within signed_of
levels-fit = refl

-- 0xFFFF is 65535 mV, -1 mA or -1 degree.
levels-are : map (λ q. level_of q 0xFFFF) quantities ≡ (pos 65535 ∷ pos 65535 ∷ negsuc 0 ∷ negsuc 0 ∷ negsuc 0 ∷ [])
unfolding level_of signed_of
levels-are = refl
