-- `pack_log::chunk::answer_chunk` meets its contract
use Rattle.log_lines.specs.Chunk.{going-start, going-done, going-full}
use Rattle.log_answers.specs.Tell.{tell-read}
use Rattle.pack_log.specs.Next.{next-is}
use Rattle.pack_log.specs.Replay.{next_pack, line_text, chunk-on}
use Rattle.log_texts.specs.Room.{room}
use native.Mathlib.Omega.{arith}
use Rattle.pack_log.proofs.chunk.answer_chunk.Goals as goal

pub loop-n-init : goal.loop-n-init
loop-n-init c = going-start next_pack line_text room _ _ _

pub shape_of-out-then-out-w : goal.shape_of-out-then-out-w
shape_of-out-then-out-w c = c.loop-n.invariant.same

pub returns-then-out-w : goal.returns-then-out-w
returns-then-out-w c = let i = c.loop-n.invariant in
    let e = next-is _ _ _ c.in-Some.ensures in
    going-full next_pack line_text room _ _ _ _ _ _ _ i _ _ e.0 c.if-out-w.true

pub loop-n-smaller : goal.loop-n-smaller
loop-n-smaller c = let e = next-is _ _ _ c.in-Some.ensures in
    let n = e.0 in
    omega (arith, n.after, n.start, n.inside)

pub loop-n-preserved : goal.loop-n-preserved
loop-n-preserved c = let i = c.loop-n.invariant in
    let e = next-is _ _ _ c.in-Some.ensures in
    chunk-on _ _ _ _ _ _ _ i _ _ e.0 c.if-out-w.false _ (tell-read _ _ _ _ e.1 c.tell_entry-t.ensures) _ _ c.put_told-w.ensures.t_len_bound c.put_told-w.ensures.put

pub shape_of-out : goal.shape_of-out
shape_of-out c = c.loop-n.invariant.same

pub returns : goal.returns
returns c = let i = c.loop-n.invariant in
    going-done next_pack line_text room _ _ _ _ _ _ _ i (next-is _ _ _ c.in_default.ensures)
