-- `guard_raised::raised_word` meets its contract: the word has the bits below i. Assumes nothing.
use Rattle.std.proofs.Common.{◌≡◌, length, rules, arith}
use Rattle.laws.specs.Words.{bits-none, bits-next}
use Rattle.guard_raised.specs.Words.{raised_word}
use Rattle.guard_raised.proofs.raised_word.Goals as goal

pub loop-i-init : goal.loop-i-init
loop-i-init c = bits-none _

pub loop-i-preserved : goal.loop-i-preserved
loop-i-preserved c = bits-next _ _ _ _ _ c.loop-i.invariant c.is_raised.ensures c.with_bit_if-w.ensures

pub returns : goal.returns
unfolding raised_word
returns c = let ten : length c.args.ps ≡ 10 = search rules in
    let all : c.loop-i.i ≡ 10 = omega arith in
    rw all at c.loop-i.invariant
