-- `pack_log::pass::pass_chunk` meets its contract. The loop keeps `Going` (crate log_lines, Chunk) with answers of no text. Assumes nothing.
use mathlib.Core.List.{[]}
use Prim.Native.Nat.{◌-◌}
use lib.ListN.{length}
use Rattle.log_lines.specs.Chunk.{Going}
use Rattle.pack_log.specs.Replay.{next_pack, no_text}
use Rattle.pack_log.proofs.pass.pass_chunk.Given as goal

abbrev pub invariant-loop-n : goal.invariant-loop-n
invariant-loop-n l = Going next_pack no_text 0 l.bytes [] l.initial.k l.at 0 l.k []

abbrev pub decreases-loop-n : goal.decreases-loop-n
decreases-loop-n l = length l.bytes - l.at
