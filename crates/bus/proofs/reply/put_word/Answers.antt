-- `bus::reply::put_word` meets its contract. Assumes nothing.
use Rattle.std.proofs.Common.{arith}
use Rattle.bus.specs.Replies.{word-sent, word-not}
use Rattle.bus.proofs.reply.put_word.Goals as goal

pub returns-then-out-ne3 : goal.returns-then-out-ne3
returns-then-out-ne3 c = let both = word-not _ _ _ c.if-out-ne3.true in record { value = both.0; out_after = both.1 }

pub returns : goal.returns
returns c = let both = word-sent _ _ _ _ _ (omega arith) c.frame.ensures c.put.ensures in record { value = both.0; out_after = both.1 }
