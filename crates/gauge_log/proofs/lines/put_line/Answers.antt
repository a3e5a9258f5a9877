-- `gauge_log::lines::put_line` meets its contract. Assumes nothing.
use Rattle.std.proofs.Common.{refl}
use Rattle.gauge_log.specs.Lines.{gauge-put}
use Rattle.gauge_log.proofs.lines.put_line.Goals as goal

pub returns : goal.returns
returns c = let p = c.put_reply-w.ensures in
    let both = gauge-put _ _ _ _ c.reply-answer.ensures.value.0 c.reply-answer.ensures.out_after c.requires (p.put, p.three_len_bound) in
    record { put = record { same = refl; put = both.0 }; command_len_bound = both.1 }
