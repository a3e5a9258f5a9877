-- `bleed_wants::wanting_word` meets its contract. The loop's invariant: the word is that of the wanting cells of the pack among the first i.
-- Assumes nothing.
use Rattle.std.proofs.Common.{◌≡◌, ◌&&◌, suc, ltb}
use Rattle.laws.specs.Words.{bits_of}
use Rattle.bleed_wants.specs.Steps.{wishes}
use Rattle.bleed_wants.proofs.wanting_word.Given as goal

abbrev pub invariant-loop-i : goal.invariant-loop-i
invariant-loop-i l = l.word ≡ bits_of (λ j. ltb j l.n && wishes l.charging l.raised l.floor.0 l.fn.difference.0 l.fn.lowest.0 l.fn.cells (suc j)) l.i
