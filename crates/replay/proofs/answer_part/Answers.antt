-- What waits is few where no line is left in it.
use Rattle.log_lines.specs.Carrying.{carried-little}
use Rattle.replay.proofs.answer_part.Goals as goal

pub returns-clause-held_bound : goal.returns-clause-held_bound
returns-clause-held_bound c t = rw c.feed-r.ensures.carries (carried-little _ _ t)
