-- `field_end` meets its contract. The loop's invariant: the search from e ends where the search from the start ends.
use mathlib.Core.Path.{◌≡◌}
use Rattle.text_number_at.specs.Along.{end_along}
use Rattle.text_number_at.proofs.field_end.Given as goal

abbrev pub invariant-loop-e : goal.invariant-loop-e
invariant-loop-e l = end_along l.bytes l.e ≡ end_along l.bytes l.from
