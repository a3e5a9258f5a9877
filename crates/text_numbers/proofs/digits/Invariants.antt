-- The loop's invariant: the digits that are left, behind the number so far, are read as the whole field is.
use Prim.Native.Nat.{◌≤◌}
use mathlib.Core.Path.{◌≡◌}
use lib.ListN.{drop}
use Rattle.text_numbers.specs.Numbers.{digits_to}
use Rattle.text_numbers.proofs.digits.Given as goal

abbrev pub invariant-loop-b : goal.invariant-loop-b
invariant-loop-b l = (l.v ≤ l.most) × (digits_to l.most l.v (drop l.b-index l.field) ≡ digits_to l.most 0 l.field)
