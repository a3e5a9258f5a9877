-- `pack_why::lines::put_switch` meets its contract. Assumes nothing.
use Rattle.std.proofs.Common.{rules}
use Rattle.text_writing.specs.Writers.{puts-left}
use Rattle.pack_why.specs.Lines.{roomed-not, roomed-put}
use Rattle.pack_why.proofs.lines.put_switch.Goals as goal

pub returns-then-out-lt-REASON : goal.returns-then-out-lt-REASON
returns-then-out-lt-REASON c = let both = roomed-not _ _ _ c.if-out-lt-REASON.true in record { put = both.0; upper_bound = both.1 }

pub put_switch_reason-requires : goal.put_switch_reason-requires
put_switch_reason-requires c = let b = c.new-w.ensures in rw (b.bytes, b.place) c.if-out-lt-REASON.false

pub returns : goal.returns
returns c = let b = c.new-w.ensures in
    let reason = c.put_switch_reason.ensures in
    let both = roomed-put 21 _ _ _ _ c.if-out-lt-REASON.false reason.why_len_bound (puts-left b.bytes b.place (search rules) reason.put) in
    record { put = rw (← c.why_switch.ensures) both.0; upper_bound = both.1 }
