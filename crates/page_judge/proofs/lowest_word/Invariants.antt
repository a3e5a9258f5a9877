-- The loop's invariant: the whole walk answers what the rest of it answers. Assumes nothing.
use mathlib.Core.Path.{◌≡◌}
use Prim.Native.Nat.{suc, ◌-◌}
use Rattle.page_judge.specs.Walk.{lowest_word, lowest_from}
use Rattle.page_judge.proofs.lowest_word.Given as goal

abbrev pub invariant-loop-i : goal.invariant-loop-i
invariant-loop-i l = lowest_word l.layout l.row l.page ≡ lowest_from l.layout l.row l.page l.i (suc l.layout.last - l.i)
