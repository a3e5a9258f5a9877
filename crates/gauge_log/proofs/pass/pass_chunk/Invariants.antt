-- `gauge_log::pass::pass_chunk` meets its contract. Assumes nothing.
use mathlib.Core.List.{[]}
use Prim.Native.Nat.{◌-◌}
use lib.ListN.{length}
use Rattle.log_lines.specs.Chunk.{Going}
use Rattle.gauge_log.specs.Pass.{next_metered, no_text}
use Rattle.gauge_log.proofs.pass.pass_chunk.Given as goal

abbrev pub invariant-loop-n : goal.invariant-loop-n
invariant-loop-n l = Going next_metered no_text 0 l.bytes [] l.initial.k l.at 0 l.k []

abbrev pub decreases-loop-n : goal.decreases-loop-n
decreases-loop-n l = length l.bytes - l.at
