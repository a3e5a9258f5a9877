-- `season::count` meets its contract. Assumes nothing.
use Rattle.log_lines.specs.Run.{feed-made}
use Rattle.season.specs.Taking.{next_season}
use Rattle.season.specs.Chunks.{no_text}
use Rattle.season.proofs.count.Goals as goal

pub returns : goal.returns
returns c = feed-made next_season no_text 0 _ _ _ _ _ _ _ _ _ _ c.count_chunk-used.ensures c.carried-held.ensures.value c.move_down.ensures
