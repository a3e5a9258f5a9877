-- `guard::all::step_some` meets its contract: the entries from `from` up to i are stepped, the others as they were. Assumes nothing.
use Rattle.std.proofs.Common.{◌≡◌, ◌-◌}
use Rattle.laws.specs.Each.{each_from}
use Rattle.guard.specs.Steps.{no_protection, step_at}
use Rattle.guard.proofs.all.step_some.Given as goal

abbrev pub invariant-loop-i : goal.invariant-loop-i
invariant-loop-i l = l.out ≡ each_from no_protection (step_at l.e l.s) l.from (l.i - l.from) l.initial.out
