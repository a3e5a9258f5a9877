-- `page_settings::limits_of` meets its contract. Assumes nothing.
use mathlib.Core.Path.{◌≡◌}
use native.Mathlib.Omega.{arith}
use Rattle.laws.specs.Each.{each_to}
use Rattle.protections.specs.Table.{protections}
use Rattle.page_settings.specs.Good.{limits-next, limits-are}
use Rattle.page_settings.proofs.limits_of.Goals as goal

pub loop-p-init : goal.loop-p-init
unfolding each_to
loop-p-init c = rw c.no_limits-all.ensures

pub loop-p-preserved : goal.loop-p-preserved
loop-p-preserved c = limits-next _ _ _ _ c.loop-p.invariant c.limits_for.ensures

pub returns : goal.returns
returns c = let e : c.loop-p.p ≡ protections = omega arith in rw (← limits-are) (rw e at c.loop-p.invariant)
