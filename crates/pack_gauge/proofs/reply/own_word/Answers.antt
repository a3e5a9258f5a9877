-- `pack_gauge::reply::own_word` meets its contract. Assumes nothing.
use Rattle.pack_gauge.specs.Replies.{gauge_word}
use Rattle.pack_gauge.specs.Filled.{filled-percent, filled-whole}
use Rattle.pack_gauge.proofs.reply.own_word.Goals as goal

pub overflow_cast-result : goal.overflow_cast-result
overflow_cast-result c = record { fits = filled-percent _ c.requires _ c.percent.ensures }

pub overflow_cast-result-in-15 : goal.overflow_cast-result-in-15
overflow_cast-result-in-15 c = record { fits = filled-whole _ c.requires _ c.whole.ensures }

pub returns-in-13 : goal.returns-in-13
unfolding gauge_word
returns-in-13 c = rw c.in-13.is c.percent.ensures

pub returns-in-15 : goal.returns-in-15
unfolding gauge_word
returns-in-15 c = rw c.in-15.is c.whole.ensures
