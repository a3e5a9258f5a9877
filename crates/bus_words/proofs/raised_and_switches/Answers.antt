-- `bus_words::raised_and_switches` meets its contract: the word has the bits below i. Assumes nothing.
use Rattle.std.proofs.Common.{◌≡◌, arith}
use Rattle.laws.specs.Words.{bits-none, bits-next}
use Rattle.bus_words.specs.Words.{with_switches}
use Rattle.bus_words.proofs.raised_and_switches.Goals as goal

pub loop-i-init : goal.loop-i-init
loop-i-init c = bits-none _

pub loop-i-preserved : goal.loop-i-preserved
loop-i-preserved c = bits-next _ _ _ _ _ c.loop-i.invariant c.raised_or_on.ensures c.with_bit_if-w.ensures

pub returns : goal.returns
unfolding with_switches
returns c = rw (← c.switches-on.ensures, ← c.raised_word-raised.ensures) (let e : c.loop-i.i ≡ 12 = omega arith in rw e at c.loop-i.invariant)
