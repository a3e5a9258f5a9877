-- `season_figures::add_new` meets its contract. The loop's invariant: the counters below i are stepped, the others are as they were. Assumes nothing.
use mathlib.Core.Path.{◌≡◌}
use Rattle.season_figures.specs.Steps.{with_new_to}
use Rattle.season_figures.proofs.add_new.Given as goal

abbrev pub invariant-loop-i : goal.invariant-loop-i
invariant-loop-i l = l.x-items ≡ with_new_to l.before l.word l.i l.initial.x-items
