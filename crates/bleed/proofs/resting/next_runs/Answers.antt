-- `bleed::resting::next_runs` meets its contract
use Rattle.std.proofs.Common.{◌≡◌, refl, sym, length, rules, arith}
use Rattle.laws.specs.Each.{each_to}
use Rattle.bleed.specs.Resting.Steps.{next_runs}
use Rattle.bleed.specs.Resting.StepLaws.{runs-none, runs-next}
use Rattle.bleed.proofs.resting.next_runs.Goals as goal

pub returns-then-bled-eq0 : goal.returns-then-bled-eq0
returns-then-bled-eq0 c = rw c.if-bled-eq0.true (sym (runs-none _ (let l : length c.args.runs ≡ 10 = search rules in l)))

pub loop-i-init : goal.loop-i-init
unfolding each_to
loop-i-init c = refl

pub loop-i-preserved : goal.loop-i-preserved
loop-i-preserved c = runs-next _ _ _ _ _ _ c.loop-i.invariant c.has_bit.ensures c.next_run.ensures

pub returns : goal.returns
unfolding next_runs
returns c = let ten : length c.args.runs ≡ 10 = search rules in
    let all : c.loop-i.i ≡ 10 = omega arith in
    rw all at c.loop-i.invariant
