-- `season::count_chunk` meets its contract. The loop keeps `Going` (crate log_lines, Chunk) with answers of no text. Assumes nothing.
use mathlib.Core.List.{[]}
use Prim.Native.Nat.{◌-◌}
use lib.ListN.{length}
use Rattle.log_lines.specs.Chunk.{Going}
use Rattle.season.specs.Taking.{next_season}
use Rattle.season.specs.Chunks.{no_text}
use Rattle.season.proofs.count_chunk.Given as goal

abbrev pub invariant-loop-n : goal.invariant-loop-n
invariant-loop-n l = Going next_season no_text 0 l.bytes [] l.initial.k l.at 0 l.k []

abbrev pub decreases-loop-n : goal.decreases-loop-n
decreases-loop-n l = length l.bytes - l.at
