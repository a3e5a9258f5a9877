-- `none_here` meets its contract. The loop's invariant: whether none of the bytes passed is the one that is wanted.
use mathlib.Core.Path.{◌≡◌}
use Rattle.text_fields.specs.Finding.{none_of}
use Rattle.text_fields.proofs.none_here.Given as goal

abbrev pub invariant-loop-b : goal.invariant-loop-b
invariant-loop-b l = l.none ≡ none_of l.b-index l.wanted l.bytes l.e
