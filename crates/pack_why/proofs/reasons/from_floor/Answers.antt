-- `pack_why::reasons::from_floor` meets its contract. Assumes nothing.
use Rattle.pack_why.specs.Steps.{floor-low, floor-near, floor-on}
use Rattle.pack_why.proofs.reasons.from_floor.Goals as goal

pub returns-then-volts-rules : goal.returns-then-volts-rules
returns-then-volts-rules c = floor-low _ _ c.if-volts-rules.true

pub returns-then-e-rules : goal.returns-then-e-rules
returns-then-e-rules c = floor-on _ _ _ c.extremes_of-e.ensures c.if-volts-rules.false c.if-e-rules.true _ c.from_rest.ensures

pub returns : goal.returns
returns c = floor-near _ _ _ c.extremes_of-e.ensures c.if-volts-rules.false c.if-e-rules.false
