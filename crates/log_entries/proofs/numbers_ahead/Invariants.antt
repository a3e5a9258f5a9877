-- `log_entries::numbers_ahead` meets its contract. The loop keeps: the fields from `at` on, behind the `count` numbers read so far, are found
-- to say what all the fields from `from` on say. Assumes nothing.
use mathlib.Core.Path.{◌≡◌}
use mathlib.Core.List.{[]}
use Prim.Native.Nat.{◌≤◌, ◌-◌}
use lib.ListN.{length}
use Rattle.log_entries.specs.InTurn.{NoCell}
use Rattle.log_entries.specs.Ahead.{ahead_behind}
use Rattle.log_entries.proofs.numbers_ahead.Given as goal

abbrev pub invariant-loop-count : goal.invariant-loop-count
invariant-loop-count l = (l.count ≤ 13) × (length l.numbers ≡ 13) × NoCell l.count l.numbers × (ahead_behind l.below l.count l.numbers l.bytes l.at ≡ ahead_behind l.below 0 [] l.bytes l.from)

abbrev pub decreases-loop-count : goal.decreases-loop-count
decreases-loop-count l = length l.bytes - l.at
