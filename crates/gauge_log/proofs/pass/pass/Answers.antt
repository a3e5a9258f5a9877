-- `gauge_log::pass::pass` meets its contract. Assumes nothing.
use Rattle.log_lines.specs.Run.{feed-made}
use Rattle.gauge_log.specs.Pass.{next_metered, no_text}
use Rattle.gauge_log.proofs.pass.pass.Goals as goal

pub returns : goal.returns
returns c = feed-made next_metered no_text 0 _ _ _ _ _ _ _ _ _ _ c.pass_chunk-used.ensures c.carried-held.ensures.value c.move_down.ensures
