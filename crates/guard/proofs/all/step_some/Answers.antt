-- `guard::all::step_some` meets its contract: the entries from `from` up to i are stepped, the others as they were. Assumes nothing.
use Rattle.std.proofs.Common.{◌≡◌, ◌-◌, arith}
use Rattle.laws.specs.Each.{each_from, each-from-next}
use Rattle.guard.specs.Steps.{no_protection, step_at}
use Rattle.guard.proofs.all.step_some.Goals as goal

pub loop-i-init : goal.loop-i-init
unfolding each_from
loop-i-init c = let none : c.args.from - c.args.from ≡ 0 = omega arith in rw none

pub loop-i-preserved : goal.loop-i-preserved
loop-i-preserved c = each-from-next no_protection (step_at _ _) _ _ (omega arith) _ _ _ c.loop-i.invariant c.step_at.ensures

pub returns : goal.returns
returns c = let ended : c.loop-i.i ≡ c.args.to = omega arith in rw (← ended) c.loop-i.invariant
