-- `pack_log::ends::put_closing` meets its contract. Assumes nothing.
use Rattle.std.proofs.Common.{rules}
use Rattle.text_writing.specs.Writers.{puts-left}
use Rattle.pack_log.specs.Replay.{closing-none, closing-put}
use Rattle.log_texts.specs.Room.{put-within}
use native.Mathlib.Omega.{arith}
use Rattle.pack_log.proofs.ends.put_closing.Goals as goal

pub returns-then-held-eq0 : goal.returns-then-held-eq0
returns-then-held-eq0 c = record { put = closing-none _ _ c.if-held-eq0.true; upper_bound = λ h. omega arith }

pub returns : goal.returns
returns c =
    let b = c.new-w.ensures in
    let p = closing-put _ _ _ _ c.if-held-eq0.false (puts-left b.bytes b.place (search rules) c.put_byte.ensures.put) in
    record { put = p; upper_bound = λ h. put-within p h }
