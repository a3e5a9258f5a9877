-- `gauge_log::pass::pass_chunk` meets its contract. Assumes nothing.
use Rattle.log_lines.specs.Chunk.{going-start, going-done}
use Rattle.pack_log.specs.Next.{next-is}
use Rattle.gauge_log.specs.Pass.{next_metered, no_text, pass-on}
use native.Mathlib.Omega.{arith}
use Rattle.gauge_log.proofs.pass.pass_chunk.Goals as goal

pub loop-n-init : goal.loop-n-init
loop-n-init c = going-start next_metered no_text 0 _ _ _

pub returns : goal.returns
returns c = going-done next_metered no_text 0 _ _ _ _ _ _ _ c.loop-n.invariant (next-is _ _ _ c.in_default.ensures)

pub loop-n-smaller : goal.loop-n-smaller
loop-n-smaller c = let e = next-is _ _ _ c.in-Some.ensures in
    let n = e.0 in
    omega (arith, n.after, n.start, n.inside)

pub loop-n-preserved : goal.loop-n-preserved
loop-n-preserved c = let e = next-is _ _ _ c.in-Some.ensures in pass-on _ _ _ _ c.loop-n.invariant _ _ e.0 _ e.1 _ c.metered_by-k.ensures
