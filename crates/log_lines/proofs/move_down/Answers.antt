-- `move_down` meets its contract
use mathlib.Core.Path.{◌≡◌}
use native.Mathlib.Omega.{arith}
use Rattle.log_lines.specs.Carrying.{moved-on, moved-end, moved-not}
use Rattle.log_lines.proofs.move_down.Goals as goal
use Rattle.log_lines.proofs.move_down.Goals.{then-n-count-via-then-n-count, then-n-count-via-else-n-count+then-n-count-2}

pub returns-then-n-count : goal.returns-then-n-count
returns-then-n-count c = let a = c.args in
    moved-not a.buf.now a.from a.count
    (elim c.then-n-count.branch [ then-n-count-via-then-n-count w ↦ omega arith | then-n-count-via-else-n-count+then-n-count-2 w ↦ omega arith ])

pub loop-i-preserved : goal.loop-i-preserved
loop-i-preserved c = (omega arith, moved-on _ _ _ _ (omega arith) c.loop-i.invariant.1)

pub returns : goal.returns
returns c = let a = c.args in
    let e : c.loop-i.i ≡ a.count = omega arith in
    moved-end a.buf.now a.from a.count _ c.loop-i.invariant.0 (rw e at c.loop-i.invariant.1)
