-- `season_figures::add_new` meets its contract. Assumes nothing.
use mathlib.Core.Path.{refl, sym}
use Rattle.laws.specs.Each.{each_to}
use Rattle.season_figures.specs.Steps.{new-same, new-next}
use Rattle.season_figures.proofs.add_new.Goals as goal

pub returns-then-word-before : goal.returns-then-word-before
returns-then-word-before c = rw c.if-word-before.true (sym (new-same _ _))

pub loop-i-init : goal.loop-i-init
unfolding each_to
loop-i-init c = refl

pub loop-i-preserved : goal.loop-i-preserved
loop-i-preserved c = new-next _ _ _ _ _ _ _ c.loop-i.invariant c.is_new.ensures c.more_if.ensures
