-- Two results that one contract allows are equal, for every public function.
-- Assumes nothing.
use mathlib.Core.Path.{sym, ◌∙◌}
use Rattle.laws.specs.Unique.{Unique}
use Rattle.bleed.proofs.resting.next_cell.Reads as next-cell
use Rattle.bleed.proofs.resting.next_cell.Kinds as next-cell-kinds
use Rattle.bleed.proofs.resting.next_runs.Reads as next-runs
use Rattle.bleed.proofs.resting.next_runs.Kinds as next-runs-kinds
use Rattle.bleed.proofs.resting.resting_word.Reads as resting-word
use Rattle.bleed.proofs.resting.resting_word.Kinds as resting-word-kinds

next-cell-one : Unique 0 next-cell-kinds.ps next-cell-kinds.r next-cell.Post
next-cell-one κs a x y s t p q = p ∙ sym q

next-runs-one : Unique 0 next-runs-kinds.ps next-runs-kinds.r next-runs.Post
next-runs-one κs a x y s t p q = p ∙ sym q

resting-word-one : Unique 0 resting-word-kinds.ps resting-word-kinds.r resting-word.Post
resting-word-one κs a x y s t p q = p ∙ sym q
