-- `bleed::resting::resting_word` meets its contract. The loop's invariant: the word is that of the resting cells of the pack among the first i.
-- Assumes nothing.
use Rattle.std.proofs.Common.{◌≡◌, ◌&&◌, suc, ltb}
use Rattle.laws.specs.Words.{bits_of}
use Rattle.bleed.specs.Resting.Steps.{run_reached}
use Rattle.bleed.proofs.resting.resting_word.Given as goal

abbrev pub invariant-loop-i : goal.invariant-loop-i
invariant-loop-i l = l.word ≡ bits_of (λ j. ltb j l.n && run_reached l.limit l.fn.runs (suc j)) l.i
