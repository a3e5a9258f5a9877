-- `pack_numbers::protections_of` meets its contract. Assumes nothing.
use mathlib.Core.Path.{◌≡◌}
use lib.ListN.{length}
use Rattle.protections.specs.Table.{protections}
use Rattle.pack_numbers.specs.Numbers.{protections_to}
use Rattle.pack_numbers.proofs.protections_of.Given as goal

abbrev pub invariant-loop-i : goal.invariant-loop-i
invariant-loop-i l = (length l.initial.all ≡ protections) × (l.all ≡ protections_to l.gs l.initial.all l.i)
