-- `season::count_chunk` meets its contract
use Rattle.log_lines.specs.Chunk.{going-start, going-done}
use Rattle.pack_log.specs.Next.{next-is}
use Rattle.season.specs.Taking.{next_season}
use Rattle.season.specs.Chunks.{no_text, count-on}
use native.Mathlib.Omega.{arith}
use Rattle.season.proofs.count_chunk.Goals as goal

pub loop-n-init : goal.loop-n-init
loop-n-init c = going-start next_season no_text 0 _ _ _

pub returns : goal.returns
returns c = going-done next_season no_text 0 _ _ _ _ _ _ _ c.loop-n.invariant (next-is _ _ _ c.in_default.ensures)

pub loop-n-smaller : goal.loop-n-smaller
loop-n-smaller c = let e = next-is _ _ _ c.in-Some.ensures in
    let n = e.0 in
    omega (arith, n.after, n.start, n.inside)

pub loop-n-preserved : goal.loop-n-preserved
loop-n-preserved c = let e = next-is _ _ _ c.in-Some.ensures in count-on _ _ _ _ c.loop-n.invariant _ _ e.0 _ e.1 _ c.take_entry-k.ensures
