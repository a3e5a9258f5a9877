-- Document 01's worked samples of bleeding and a case for each of its slips, computed from the definitions; and the histories at which
-- n samples would not do.
-- Assumes nothing.
use Rattle.std.specs.Prelude.{◌≡◌, refl, Bool, true, false, ◌&&◌, List, [], ◌∷◌, ◌++◌, map, reverse, ℕ, ◌-◌, eqb, replicate}
use Rattle.std.specs.Int.Count.{ones, ones_in}
use Rattle.laws.specs.Bits.{has_bit, with_bit, with_bit_if}
use Rattle.laws.specs.Latest.{last_all, among}
use Rattle.bleed.specs.Resting.Steps.{next_cell}
use Rattle.bleed.specs.Walk.Walk.{has, up_from}
use Rattle.bleed.specs.Walk.History.{wants_cell, bleds}
use Rattle.bleed_wants.specs.Word.{holds_cell}
use Rattle.bleed.specs.Walk.Word.{with_cell_if, cells_word}
use Rattle.bleed.specs.Walk.Steps.{is_cell, chosen_word, beside_taken, may_take, take_one, take_from}
use Rattle.bleed.specs.Walk.Balance.{runs_after, bled_word_after}

-- The cells that want at each sample, in the order of time, as a history of wishes.
abbrev pub history : List (List ℕ) → List (ℕ → Bool)
history ls = reverse (map (λ l k. has k l) ls)

-- The cells bled at each sample, in the order of time; within a sample the latest taken first.
abbrev pub bled : ℕ → ℕ → ℕ → List (List ℕ) → List (List ℕ)
bled n K R ls = reverse (bleds n K R (history ls))

-- ---- the worked samples

-- n 3, K 1, R 1: none want at samples 1 and 2.
abbrev pub starred_wishes : List (List ℕ)
starred_wishes = [] ∷ [] ∷ (1 ∷ 2 ∷ []) ∷ (1 ∷ 3 ∷ []) ∷ (1 ∷ 2 ∷ []) ∷ (1 ∷ 3 ∷ []) ∷ (1 ∷ 2 ∷ []) ∷ []

pub starred-walk : bled 3 1 1 starred_wishes ≡ [] ∷ [] ∷ (1 ∷ []) ∷ (3 ∷ []) ∷ (2 ∷ []) ∷ (3 ∷ []) ∷ (1 ∷ []) ∷ []
starred-walk = refl

-- R 1, one cell always wanting, no others.
pub every-second : bled 3 1 1 (replicate 6 (2 ∷ [])) ≡ (2 ∷ []) ∷ [] ∷ (2 ∷ []) ∷ [] ∷ (2 ∷ []) ∷ [] ∷ []
every-second = refl

-- ---- the slips

-- The start cell goes from n to 1.
start-wraps : bled 3 1 4 (replicate 4 (1 ∷ 2 ∷ 3 ∷ [])) ≡ (1 ∷ []) ∷ (2 ∷ []) ∷ (3 ∷ []) ∷ (1 ∷ []) ∷ []
start-wraps = refl

-- Cells 1 and n are neighbours if n is 2.
two-cells : bled 2 2 4 ((1 ∷ 2 ∷ []) ∷ []) ≡ (1 ∷ []) ∷ []
two-cells = refl

-- Neither the cell after a taken one nor the cell before it is taken, and a refused cell blocks nobody; K are taken and no more.
refused-blocks-nobody : bled 5 2 4 ([] ∷ (1 ∷ 2 ∷ 3 ∷ 4 ∷ 5 ∷ []) ∷ []) ≡ [] ∷ (4 ∷ 2 ∷ []) ∷ []
refused-blocks-nobody = refl

most-taken : bled 5 2 4 ((1 ∷ 3 ∷ 5 ∷ []) ∷ []) ≡ (3 ∷ 1 ∷ []) ∷ []
most-taken = refl

-- R samples in a row, and no more.
run-limit : bled 2 1 2 (replicate 5 (1 ∷ [])) ≡ (1 ∷ []) ∷ (1 ∷ []) ∷ [] ∷ (1 ∷ []) ∷ (1 ∷ []) ∷ []
run-limit = refl

-- ---- the words

-- A history in which no cell wants is no wish of cell 1.
wish-is-asked : last_all 1 (wants_cell 1) (history ([] ∷ [])) ∷ last_all 1 (wants_cell 1) (history ((1 ∷ []) ∷ [])) ∷ [] ≡ false ∷ true ∷ []
wish-is-asked = refl

-- What is kept after five samples with R 2 at which cell 1 always wants, and after three: its run, and the word of the bled.
kept-after-five : runs_after 2 1 2 (history (replicate 5 (1 ∷ []))) ≡ 2 ∷ 0 ∷ 0 ∷ 0 ∷ 0 ∷ 0 ∷ 0 ∷ 0 ∷ 0 ∷ 0 ∷ []
unfolding runs_after
kept-after-five = refl

word-after : map (λ (m : ℕ). bled_word_after 2 1 2 (history (replicate m (1 ∷ [])))) (0 ∷ 2 ∷ 3 ∷ 5 ∷ []) ≡ 0 ∷ 1 ∷ 0 ∷ 1 ∷ []
unfolding bled_word_after with_bit
word-after = refl

-- The walk's word: from cell 2 on, around the end, from no cell, and of more than ten cells.
words-chosen :
    chosen_word 3 1 7 0 2 ∷ chosen_word 3 1 1 0 3 ∷ chosen_word 3 1 7 0 4 ∷ chosen_word 3 1 7 0 0 ∷ chosen_word 11 1 7 0 1 ∷ chosen_word 10 5 0x3FF 1 1 ∷ []
    ≡ 2 ∷ 1 ∷ 0 ∷ 0 ∷ 0 ∷ 0x2AA ∷ []
unfolding chosen_word is_cell holds_cell has_bit with_bit
words-chosen = refl

-- One cell of the code's walk: beside cell 2 stand cells 1 and 3, beside cell 1 cell 2 alone.
cells-beside : map (beside_taken 2) (1 ∷ 2 ∷ 3 ∷ 4 ∷ []) ∷ map (beside_taken 1) (1 ∷ 2 ∷ 3 ∷ []) ∷ [] ≡ (true ∷ false ∷ true ∷ false ∷ []) ∷ (false ∷ true ∷ false ∷ []) ∷ []
unfolding beside_taken has_bit
cells-beside = refl

-- It is taken; it rests; so does cell 3; another rests; its neighbour is taken; K are taken; one less is; it does not want.
one-taken :
    take_one 1 7 0 0 2 ∷ take_one 1 7 2 0 2 ∷ take_one 1 7 4 0 3 ∷ take_one 1 7 4 0 2 ∷ take_one 2 7 0 1 2 ∷ take_one 1 7 0 4 1 ∷ take_one 2 7 0 4 1 ∷ take_one 2 5 0 0 2 ∷ []
    ≡ 2 ∷ 0 ∷ 0 ∷ 2 ∷ 1 ∷ 4 ∷ 5 ∷ 0 ∷ []
unfolding take_one may_take beside_taken holds_cell has_bit with_cell_if with_bit_if with_bit ones ones_in
one-taken = refl

-- Three cells in a row, from cell 2 and from cell 3 on.
all-taken : take_from 3 3 1 7 0 2 0 ∷ take_from 3 3 2 7 0 3 0 ∷ take_from 1 3 2 7 0 3 0 ∷ [] ≡ 2 ∷ 5 ∷ 4 ∷ []
unfolding take_from take_one may_take beside_taken holds_cell has_bit with_cell_if with_bit_if with_bit next_cell ones ones_in
all-taken = refl

-- Cell 1 is bit 0, cell 10 is bit 9.
ends-of-a-word : cells_word (1 ∷ 10 ∷ []) ≡ 0x201
unfolding with_bit
ends-of-a-word = refl

-- ---- n would not do

-- Cell 1 wants at the latest n samples of the history and is bled at none of them.
abbrev pub starves : ℕ → ℕ → ℕ → List (ℕ → Bool) → Bool
starves n K R ws = last_all n (wants_cell 1) ws && eqb (among n (has 1) (bleds n K R ws)) 0

-- Cell 1 is bled at the sample before its own start turn. It rests at that turn, and at each later one the start cell wants too.
abbrev pub waiting : ℕ → List (ℕ → Bool)
waiting n = history (replicate (n - 1) [] ++ (1 ∷ []) ∷ map (λ k. 1 ∷ k ∷ []) (up_from 1 n))

-- Two cells need three samples as well where any wishes may come. (Of two cells of a pack only one can exceed the lowest, and there two samples do.)
abbrev pub both : List (List ℕ)
both = (1 ∷ []) ∷ (1 ∷ []) ∷ (1 ∷ 2 ∷ []) ∷ (1 ∷ 2 ∷ []) ∷ []

both-bled : bled 2 1 2 both ≡ (1 ∷ []) ∷ (1 ∷ []) ∷ (2 ∷ []) ∷ (2 ∷ []) ∷ []
both-bled = refl

abbrev pub all : (ℕ → Bool) → List ℕ → Bool
all p [] = true
all p (k ∷ l) = p k && all p l

-- A pack of three cells has no cell 4: neither the walk nor its word takes one, and there is no cell 0.
past-the-last : (bled 3 2 4 ((1 ∷ 4 ∷ 5 ∷ []) ∷ (4 ∷ 3 ∷ []) ∷ []) ≡ (1 ∷ []) ∷ (3 ∷ []) ∷ []) × (chosen_word 3 1 8 0 1 ∷ chosen_word 3 1 12 0 2 ∷ [] ≡ 0 ∷ 4 ∷ [])
    × (with_cell_if true 4 0 ∷ with_cell_if true 4 1 ∷ with_cell_if false 4 1 ∷ [] ≡ 4 ∷ 5 ∷ 4 ∷ [])
unfolding chosen_word is_cell holds_cell has_bit with_cell_if with_bit_if with_bit
past-the-last = (refl, refl, refl)

-- Once more one cell of the code's walk: K is no cell; the resting cells block nobody's neighbour; cell 1 can rest; two cells taken side by side,
-- and three.
one-taken-more : (take_one 1 4 0 0 3 ∷ take_one 2 7 4 1 2 ∷ take_one 1 7 1 0 1 ∷ [] ≡ 4 ∷ 1 ∷ 0 ∷ [])
    × (map (beside_taken 3) (1 ∷ 2 ∷ 3 ∷ 4 ∷ []) ∷ map (beside_taken 7) (1 ∷ 4 ∷ 5 ∷ []) ∷ [] ≡ (true ∷ true ∷ true ∷ false ∷ []) ∷ (true ∷ true ∷ false ∷ []) ∷ [])
unfolding take_one may_take beside_taken holds_cell has_bit with_cell_if with_bit_if with_bit ones ones_in
one-taken-more = (refl, refl)
