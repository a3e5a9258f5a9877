-- `guard_watch::bands_of` meets its contract: the bands are those of the protections below i. Assumes nothing.
use Rattle.std.proofs.Common.{◌≡◌}
use Rattle.guard_watch.specs.Bands.{bands_to}
use Rattle.guard_watch.proofs.bands_of.Given as goal

abbrev pub invariant-loop-i : goal.invariant-loop-i
invariant-loop-i l = l.bands ≡ bands_to l.fn.ps l.i
