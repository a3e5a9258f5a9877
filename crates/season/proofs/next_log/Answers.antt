-- `season::next_log` meets its contract. Assumes nothing.
use mathlib.Core.Path.{refl}
use Rattle.season.specs.Taking.{with_fresh}
use Rattle.season.proofs.next_log.Goals as goal

pub returns : goal.returns
unfolding with_fresh
returns c = refl
