-- `bus::reply::reply` meets its contract. Assumes nothing.
use Rattle.std.proofs.Common.{sym}
use Rattle.bus.specs.Replies.{answer_to, buffer_of, sent-room}
use Rattle.bus.proofs.reply.reply.Goals as goal

pub returns-in_err-answer_to-clause-out_after : goal.returns-in_err-answer_to-clause-out_after
unfolding buffer_of
returns-in_err-answer_to-clause-out_after c = rw (← c.in_err-answer_to.ensures.0)

pub put-requires : goal.put-requires
unfolding answer_to
put-requires c = sent-room _ _ _ _ (sym c.in_ok-answer_to.ensures.0)

pub returns : goal.returns
unfolding buffer_of
returns c = record {
  value = c.in_ok-answer_to.ensures;
  out_after = rw (← c.in_ok-answer_to.ensures.0, ← c.row_of_command.ensures, ← c.sent_word-word.ensures, ← c.frame.ensures)
      c.put.ensures;
}
