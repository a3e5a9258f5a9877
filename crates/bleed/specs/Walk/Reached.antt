-- What the walk has taken when it reaches a cell; the same by the code's walk over words, which stops there.
-- Assumes nothing.
use Rattle.std.specs.Prelude.{Bool, cond, Option, Some, None, List, [], ◌∷◌, ℕ, zero, suc, eqb}
use Rattle.units.specs.declared.CellNo.{CellNo}
use Rattle.bleed_wants.specs.Word.{holds_cell}
use Rattle.bleed.specs.Resting.Steps.{next_cell}
use Rattle.bleed.specs.Walk.Walk.{order, walk}
use Rattle.bleed.specs.Walk.Word.{cells_word}
use Rattle.bleed.specs.Walk.Steps.{is_cell, take_one, take_from}

-- The cells before cell k on a walk.
abbrev pub up_to : ℕ → List ℕ → List ℕ
up_to k [] = []
up_to k (d ∷ l) = cond (eqb k d) [] (d ∷ up_to k l)

-- The cells that are taken when the walk reaches cell k.
abbrev pub taken_before : ℕ → ℕ → (ℕ → Bool) → (ℕ → Bool) → ℕ → ℕ → List ℕ
taken_before n K wants rests start k = walk K wants rests (up_to k (order n start)) []

-- The word of the cells that are taken when the walk reaches cell k: which cells want and which rest are words too. A start that is no
-- cell gives none.
unfoldable pub taken_word : ℕ → ℕ → ℕ → ℕ → ℕ → ℕ → ℕ
taken_word n K want rest start k =
    cond (is_cell n start) (cells_word (taken_before n K (holds_cell want) (holds_cell rest) start k)) 0

-- The word after the next j cells, from cell d on, or when cell k is reached among them.
unfoldable pub take_to : ℕ → ℕ → ℕ → ℕ → ℕ → ℕ → ℕ → ℕ → ℕ
take_to zero n K want rest k d taken = taken
take_to (suc j) n K want rest k d taken =
    cond (eqb k d) taken (take_to j n K want rest k (next_cell n d) (take_one K want rest taken d))

-- The word after the next j cells, from cell d on; if a cell is named and reached among them, until then.
unfoldable pub walked : Option CellNo → ℕ → ℕ → ℕ → ℕ → ℕ → ℕ → ℕ → ℕ
walked None j n K want rest d taken = take_from j n K want rest d taken
walked (Some k) j n K want rest d taken = take_to j n K want rest k.0 d taken
