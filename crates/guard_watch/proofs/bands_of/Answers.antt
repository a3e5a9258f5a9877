-- `guard_watch::bands_of` meets its contract: the bands are those of the protections below i. Assumes nothing.
use Rattle.std.proofs.Common.{◌≡◌, refl, length, rules, arith}
use Rattle.guard_watch.specs.Bands.{bands_to}
use Rattle.guard_watch.proofs.BandLaws.{bands-next}
use Rattle.guard_watch.proofs.bands_of.Goals as goal

pub loop-i-init : goal.loop-i-init
unfolding bands_to
loop-i-init c = refl

pub loop-i-preserved : goal.loop-i-preserved
loop-i-preserved c = bands-next _ _ _ _ c.loop-i.invariant c.narrowed_at-next.ensures

pub returns : goal.returns
returns c = let ten : length c.args.ps ≡ 10 = search rules in
    let all : c.loop-i.i ≡ 10 = omega arith in
    rw all at c.loop-i.invariant
