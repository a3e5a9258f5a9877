-- `pack_numbers::guards_of` meets its contract. Assumes nothing.
use mathlib.Core.Path.{◌≡◌}
use lib.ListN.{length}
use Rattle.protections.specs.Table.{protections}
use Rattle.pack_numbers.specs.Numbers.{guards_to}
use Rattle.pack_numbers.proofs.guards_of.Given as goal

abbrev pub invariant-loop-i : goal.invariant-loop-i
invariant-loop-i l = (length l.initial.all ≡ protections) × (l.all ≡ guards_to l.ps l.initial.all l.i)
