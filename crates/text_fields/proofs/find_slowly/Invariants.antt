-- `find_slowly` meets its contract. The loop's invariant: the search from e ends where the search from the start ends.
use Prim.Native.Nat.{◌+◌}
use mathlib.Core.Path.{◌≡◌}
use lib.ListN.{length, drop}
use Rattle.text_fields.specs.Finding.{before}
use Rattle.text_fields.proofs.find_slowly.Given as goal

abbrev pub invariant-loop-e : goal.invariant-loop-e
invariant-loop-e l = l.e + length (before l.wanted (drop l.e l.bytes)) ≡ l.from + length (before l.wanted (drop l.from l.bytes))
