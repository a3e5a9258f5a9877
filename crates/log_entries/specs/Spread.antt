-- How many bytes some fields take, and whether they have a byte.
-- Assumes nothing.
use Rattle.std.specs.Prelude.{Bool, true, false, cond, List, [], ◌∷◌, ℕ, suc, ◌+◌, length}
use Rattle.text_fields.specs.Finding.{lacks}

-- How many bytes some fields take, each with the one byte that parts it from the next or ends the line.
unfoldable pub spread : List (List ℕ) → ℕ
spread [] = 0
spread (f ∷ fs) = suc (length f) + spread fs

-- Whether no field has this byte.
unfoldable pub clean : ℕ → List (List ℕ) → Bool
clean w [] = true
clean w (f ∷ fs) = cond (lacks w f) (clean w fs) false
