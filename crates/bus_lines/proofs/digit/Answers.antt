-- `bus_lines::digit` meets its contract. Assumes nothing.
use Rattle.bus_lines.specs.Lines.{digit-low, digit-high}
use native.Mathlib.Omega.{arith}
use Rattle.bus_lines.proofs.digit.Goals as goal

pub returns-then-v-lt10 : goal.returns-then-v-lt10
returns-then-v-lt10 c = digit-low _ c.if-v-lt10.true

pub returns : goal.returns
returns c = digit-high _ (omega arith)
