-- What a word has to meet by what it is: rows 5 to 8 of the refusal table.
-- Assumes nothing.
use Rattle.std.specs.Prelude.{Bool, true, cond, List, ℕ, ◌+◌, ◌*◌, eqb, get_or}
use Rattle.protections.specs.Direction.{in_order}
use Rattle.protections.specs.Table.{row_at}
use Rattle.page_words.specs.Ranges.{word_at, within, level_fits, level_of}
use Rattle.page_faults.specs.Kinds.{kind_of}
use Rattle.page_faults.specs.declared.Layout.{Layout}
use Rattle.page_faults.specs.declared.Kind.{Kind}
use Rattle.page_faults.specs.declared.Kind.TheVariants.{Mark, Setting, Reserved, Trip, Release, Limit, Last, Outside}

-- A trip or release word of protection p is in the range of what p looks at.
unfoldable pub level_met : ℕ → ℕ → Bool
level_met p x = level_fits (row_at p).quantity x

-- The trip word x and the release word y of protection p are in the order of its direction.
unfoldable pub order_met : ℕ → ℕ → ℕ → Bool
order_met p x y = in_order (row_at p).direction (level_of (row_at p).quantity x) (level_of (row_at p).quantity y)

-- What row `number` asks: it asks nothing where another row is looked at.
unfoldable pub on_row : ℕ → ℕ → Bool → Bool
on_row number row met = cond (eqb row number) met true

-- What the rows ask of word i, by what it is: "5, a reserved word, or byte 126 (as word 63), isn't 0; 6, one of words 1..8 out of range;
-- 7, a protection word out of range; 8, trip and release not in the order above", for which the trip word is named. The mark has rows
-- of its own, 2 and 3. "On a 160-byte page refusal 5 looks at words 9 to 15, words 66 to 78 and byte 158, which is named as word 79;
-- words 56 to 62 and byte 126 belong to protections there."
unfoldable pub kind_meets : Kind → ℕ → List ℕ → ℕ → Bool
kind_meets Mark row b i = true
kind_meets (Setting low high) row b i = on_row 6 row (within low high (word_at b i))
kind_meets Reserved row b i = on_row 5 row (eqb (word_at b i) 0)
kind_meets (Trip p) row b i = cond (eqb row 8) (order_met p.0 (word_at b i) (word_at b (i + 1))) (on_row 7 row (level_met p.0 (word_at b i)))
kind_meets (Release p) row b i = on_row 7 row (level_met p.0 (word_at b i))
kind_meets (Limit low high) row b i = on_row 7 row (within low high (word_at b i))
kind_meets Last row b i = on_row 5 row (eqb (get_or b (2 * i) 0) 0)
kind_meets Outside row b i = true

-- Word i of a page of that layout meets the row; a word of which the row does not speak does, and so does what is no word of the page.
unfoldable pub meets : Layout → ℕ → List ℕ → ℕ → Bool
meets l row b i = kind_meets (kind_of l i) row b i
