-- `log_entries::read_numbers` meets its contract. The loop keeps: the fields from `at` on, behind the `count` numbers read so far, say what all
-- the fields from `from` on say. Assumes nothing.
use mathlib.Core.Path.{◌≡◌}
use Prim.Native.Nat.{◌≤◌, ◌+◌, ◌-◌}
use lib.ListN.{length}
use Rattle.log_entries.specs.Left.{left}
use Rattle.log_entries.specs.InTurn.{read_numbers, behind, NoCell}
use Rattle.log_entries.proofs.read_numbers.Given as goal

abbrev pub invariant-loop-at : goal.invariant-loop-at
invariant-loop-at l = (l.count ≤ 13) × (l.at ≤ length l.line + 1) × (length l.numbers ≡ 13) × NoCell l.count l.numbers
    × (behind l.below l.count l.numbers (left l.line l.at) ≡ read_numbers l.below (left l.line l.from))

abbrev pub decreases-loop-at : goal.decreases-loop-at
decreases-loop-at l = length l.line + 1 - l.at
