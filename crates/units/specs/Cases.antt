-- Signed numbers worked by hand: document 01's -2 and -32768, and the ends of both halves. `negsuc k` is -(k + 1).
-- Assumes nothing.
use Rattle.std.specs.Prelude.{◌≡◌, refl, Bool, true, ◌&&◌, List, [], ◌∷◌, map, ℕ, eqb, ℤ, pos, negsuc}
use Rattle.std.specs.Int.Signed.{le_z}
use Rattle.units.specs.Levels.{level, page_level}
use Rattle.units.specs.Signed.{signed_of, word_of}

pub record Case : Type 0 where
  pub word : ℕ
  pub number : ℤ

abbrev case : ℕ → ℤ → Case
case w z = record { word = w; number = z }

abbrev cases : List Case
cases =
    case 0x0000 (pos 0) ∷ case 0x7FFF (pos 32767) ∷ case 0x8000 (negsuc 32767) ∷ case 0xFFFE (negsuc 1) ∷ case 0xFFFF (negsuc 0) ∷ []

-- The word reads as the number, and the number is sent as the word.
abbrev passes : List Case → Bool
passes [] = true
passes (c ∷ cs) =
    le_z (signed_of c.word) c.number && le_z c.number (signed_of c.word) && eqb (word_of c.number) c.word && passes cs

cases-pass : passes cases ≡ true
unfolding signed_of word_of
cases-pass = refl

-- A level is the number it is made of.
levels : map (λ z. (level z).0) (pos 5 ∷ negsuc 4 ∷ []) ∷ map (λ z. (page_level z).0) (pos 5 ∷ negsuc 4 ∷ []) ∷ [] ≡ (pos 5 ∷ negsuc 4 ∷ []) ∷ (pos 5 ∷ negsuc 4 ∷ []) ∷ []
levels = refl
