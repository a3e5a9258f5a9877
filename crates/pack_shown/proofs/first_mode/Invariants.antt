-- The loop's invariant: the mode is that of the rest of the order. Assumes nothing.
use mathlib.Core.Path.{◌≡◌}
use lib.ListN.{drop}
use Rattle.laws.specs.Bits.{has_bit}
use Rattle.pack_shown.specs.Shown.{mode_order, first_mode}
use Rattle.pack_shown.proofs.first_mode.Given as goal

abbrev pub invariant-loop-p : goal.invariant-loop-p
invariant-loop-p l = first_mode (has_bit l.raised) mode_order l.other ≡ first_mode (has_bit l.raised) (drop l.p-index mode_order) l.other
