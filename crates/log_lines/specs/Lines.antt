-- A log as a list of lines, and where the next one ends.
use Rattle.std.specs.Prelude.{ℕ, Option, Some, None, ◌+◌, Bool, cond, List, [], ◌∷◌, eqb, ltb, length, drop}
use Rattle.text_fields.specs.Finding.{before, lacks}
use Rattle.text_fields.specs.Fields.{longer}
use Rattle.log_lines.specs.declared.NextLine.{NextLine}

-- "The last line need not end, and nothing after a final newline is a line": a newline is byte 10
-- (longer: the first of the lines with one byte more in front; where there is none, that byte is one)
unfoldable pub lines_of : List ℕ → List (List ℕ)
lines_of [] = []
lines_of (b ∷ bs) = cond (eqb b 10) ([] ∷ lines_of bs) (longer b (lines_of bs))

-- no newline in these bytes
abbrev pub plain : List ℕ → Bool
plain x = lacks 10 x

-- how many bytes stand before the first newline, or all of them
abbrev pub end_of : List ℕ → ℕ
end_of x = length (before 10 x)

-- A line that ends: where its newline stands, and where the line behind it starts.
abbrev pub Ends : ℕ → ℕ → Option NextLine
Ends end next = Some (record { end = end; next = next })

-- The next line from a place on; none where no newline is left.
unfoldable pub next_line : List ℕ → ℕ → Option NextLine
next_line text from =
    let x : List ℕ = drop from text in
    cond (ltb (end_of x) (length x)) (Ends (from + end_of x) (from + end_of x + 1)) None
