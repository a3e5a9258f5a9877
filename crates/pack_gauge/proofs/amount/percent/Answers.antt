-- `pack_gauge::amount::percent` meets its contract. Assumes nothing.
use mathlib.Core.Path.{refl}
use Rattle.pack_gauge.specs.Amount.{percent_of}
use Rattle.pack_gauge.specs.Exact.{percent-none}
use Rattle.pack_gauge.proofs.amount.percent.Goals as goal

pub returns-then-full-eq0 : goal.returns-then-full-eq0
returns-then-full-eq0 c = percent-none _ _ c.if-full-eq0.true

pub returns : goal.returns
unfolding percent_of
returns c = refl
