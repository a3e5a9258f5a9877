-- `pack_numbers::protections_of` meets its contract. Assumes nothing.
use mathlib.Core.Path.{◌≡◌, refl, ◌∙◌}
use native.Mathlib.Omega.{arith}
use Rattle.laws.specs.Each.{each_to}
use Rattle.protections.specs.Table.{protections}
use Rattle.pack_numbers.specs.Numbers.{protections_to, protections-next, protections-are}
use Rattle.pack_numbers.proofs.protections_of.Goals as goal

pub loop-i-init : goal.loop-i-init
unfolding each_to protections_to
loop-i-init c = (search, refl)

pub loop-i-preserved : goal.loop-i-preserved
loop-i-preserved c = let l = c.loop-i in
    (l.invariant.0, protections-next _ _ _ _ _ l.invariant.1 c.from.ensures)

pub returns : goal.returns
returns c = let l = c.loop-i in
    let e : l.i ≡ protections = omega arith in
    rw e at l.invariant.1 ∙ protections-are _ _ l.invariant.0
