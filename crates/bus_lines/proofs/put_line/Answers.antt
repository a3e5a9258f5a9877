-- `bus_lines::put_line` meets its contract. Assumes nothing.
use Rattle.bus_words.specs.Bounds.{kept-bounded}
use Rattle.bus_lines.specs.Lines.{line-made, word-put}
use Rattle.bus_lines.proofs.put_line.Goals as goal

pub reply-answer-requires : goal.reply-answer-requires
reply-answer-requires c = kept-bounded _ c.k.invariant

pub returns : goal.returns
returns c =
    rw (← c.k.view_is)
    (let p = c.put_answered.ensures in
    let both = word-put _ _ _ _ c.reply-answer.ensures.value.0 c.reply-answer.ensures.out_after c.requires (line-made _ _ _ _ _ c.requires (p.put.put, p.three_len_bound)) in
    record { put = record { same = p.put.same; put = both.0 }; command_len_bound = both.1 })
