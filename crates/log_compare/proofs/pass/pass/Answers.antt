-- `log_compare::pass::pass` meets its contract. Assumes nothing.
use Rattle.log_lines.specs.Run.{feed-made}
use Rattle.log_compare.specs.Pass.{next_both, no_text}
use Rattle.log_compare.proofs.pass.pass.Goals as goal

pub returns : goal.returns
returns c = feed-made next_both no_text 0 _ _ _ _ _ _ _ _ _ _ c.pass_chunk-used.ensures c.carried-held.ensures.value c.move_down.ensures
