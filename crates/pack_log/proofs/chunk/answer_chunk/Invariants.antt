-- `pack_log::chunk::answer_chunk` meets its contract. The loop keeps `Going` (crate log_lines, Chunk). Assumes nothing.
use Prim.Native.Nat.{◌-◌}
use lib.ListN.{length}
use Rattle.log_lines.specs.Chunk.{Going}
use Rattle.pack_log.specs.Replay.{next_pack, line_text}
use Rattle.log_texts.specs.Room.{room}
use Rattle.pack_log.proofs.chunk.answer_chunk.Given as goal

abbrev pub invariant-loop-n : goal.invariant-loop-n
invariant-loop-n l = Going next_pack line_text room l.bytes l.initial.out l.initial.k l.at l.w l.k l.out

abbrev pub decreases-loop-n : goal.decreases-loop-n
decreases-loop-n l = length l.bytes - l.at
