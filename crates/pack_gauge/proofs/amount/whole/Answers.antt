-- `pack_gauge::amount::whole` meets its contract. Assumes nothing.
use mathlib.Core.Path.{refl}
use Rattle.pack_gauge.specs.Amount.{whole_of}
use Rattle.pack_gauge.proofs.amount.whole.Goals as goal

pub returns : goal.returns
unfolding whole_of
returns c = refl
