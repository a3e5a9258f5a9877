-- `pack_log::chunk::feed` meets its contract. Assumes nothing.
use Rattle.log_lines.specs.Run.{feed-made}
use Rattle.log_texts.specs.Room.{room}
use Rattle.pack_log.specs.Replay.{next_pack, line_text}
use Rattle.pack_log.proofs.chunk.feed.Goals as goal

pub returns : goal.returns
returns c = feed-made next_pack line_text room _ _ _ _ _ _ _ _ _ _ c.answer_chunk-done.ensures c.carried-held.ensures.value c.move_down.ensures
