-- `bus_words::raised_and_switches` meets its contract: the word has the bits below i. Assumes nothing.
use Rattle.std.specs.Prelude.{◌≡◌}
use Rattle.laws.specs.Bits.{has_bit}
use Rattle.laws.specs.Words.{bits_of}
use Rattle.bus_words.specs.Words.{raised_or_on}
use Rattle.bus_words.proofs.raised_and_switches.Given as goal

abbrev pub invariant-loop-i : goal.invariant-loop-i
invariant-loop-i l = l.w ≡ bits_of (raised_or_on (has_bit l.raised) (has_bit l.on)) l.i
