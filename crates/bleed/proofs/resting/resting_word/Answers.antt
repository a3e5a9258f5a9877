-- `bleed::resting::resting_word` meets its contract
use Rattle.std.proofs.Common.{◌≡◌, ◌∙◌, length, rules, arith, eq-eqb, ne_eqb}
use Rattle.laws.specs.Words.{bits-none, bits-next, bits-within}
use Rattle.bleed_wants.specs.Word.{cells_passing}
use Rattle.bleed.specs.Resting.Steps.{resting_word}
use Rattle.bleed.specs.Resting.StepLaws.{run-reached-at}
use Rattle.bleed.proofs.resting.resting_word.Goals as goal

pub returns-then-bled-eq0 : goal.returns-then-bled-eq0
unfolding resting_word
returns-then-bled-eq0 c = rw (eq-eqb _ _ c.if-bled-eq0.true)

pub loop-i-init : goal.loop-i-init
loop-i-init c = bits-none _

pub loop-i-preserved : goal.loop-i-preserved
loop-i-preserved c = let a = c.args in
    bits-next _ _ _ _ _ c.loop-i.invariant (c.rests_one-on.ensures ∙ run-reached-at a.n a.limit a.runs c.loop-i.i) c.with_bit_if-word.ensures

pub returns : goal.returns
unfolding resting_word cells_passing
returns c = let ten : length c.args.runs ≡ 10 = search rules in
    let all : c.loop-i.i ≡ 10 = omega arith in
    rw (ne_eqb _ _ c.if-bled-eq0.false) (rw all at c.loop-i.invariant ∙ bits-within 10 _ _)
