-- `season::begin` meets its contract. Assumes nothing.
use Rattle.season.specs.Taking.{begin_with}
use Rattle.season.proofs.begin.Goals as goal

pub returns : goal.returns
unfolding begin_with
returns c = rw c.no_figures.ensures
