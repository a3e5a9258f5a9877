-- A text put into a buffer.
use Rattle.std.specs.Prelude.{ℕ, ◌+◌, ◌≡◌, Bool, cond, List, ◌++◌, leb, length, take, drop}

-- the buffer d with the text s at at
abbrev pub written : List ℕ → ℕ → List ℕ → List ℕ
written d at s = take at d ++ (s ++ drop (at + length s) d)

-- whether s has room at at
abbrev pub has_room : List ℕ → ℕ → List ℕ → Bool
has_room d at s = leb (at + length s) (length d)

-- d with s at at; without room nothing is written
unfoldable pub placed : List ℕ → ℕ → List ℕ → List ℕ
placed d at s = cond (has_room d at s) (written d at s) d

-- the place behind s; without room it stays at at
unfoldable pub place_behind : List ℕ → ℕ → List ℕ → ℕ
place_behind d at s = cond (has_room d at s) (at + length s) at

-- what a writer of s at at answers, r, and leaves of the buffer d, e
pub record Put (d : List ℕ) (at : ℕ) (s : List ℕ) (r : ℕ) (e : List ℕ) : Type 0 where
  pub place : r ≡ place_behind d at s
  pub bytes : e ≡ placed d at s
