-- `guard_watch::step` meets its contract. Assumes nothing.
use Rattle.guard_watch.specs.Watch.{watch_of, guarded_by}
use Rattle.guard_watch.specs.Bands.{is_calm}
use Rattle.guard_watch.proofs.BandLaws.{calm-stays}
use Rattle.guard.specs.Steps.{step_all}
use mathlib.Core.Path.{◌≡◌, sym, ◌∙◌}
use mathlib.Core.Bool.{true}
use Rattle.guard_watch.proofs.step.Goals as goal

pub returns-then-is_calm : goal.returns-then-is_calm
unfolding guarded_by watch_of
returns-then-is_calm c = let a = c.args in
    let kept : a.w ≡ watch_of a.ps = c.requires in
    let calm : is_calm a.w.bands a.e a.s ≡ true = sym c.is_calm.ensures ∙ c.if-is_calm.true in
    let stays : step_all a.e a.s a.ps ≡ a.ps = calm-stays a.e a.s a.ps (rw kept at calm) in
    rw (stays, ← kept)
