-- The loop's invariant: the first p entries are what the page says. Assumes nothing.
use mathlib.Core.Path.{◌≡◌}
use Rattle.page_settings.specs.Good.{limits_to}
use Rattle.page_settings.proofs.limits_of.Given as goal

abbrev pub invariant-loop-p : goal.invariant-loop-p
invariant-loop-p l = l.all ≡ limits_to l.page l.p
