-- `pack_gauge::amount::counted` meets its contract. Assumes nothing.
use Rattle.pack_gauge.proofs.amount.Sums.{widen-fits, sum-fits, sum-read, held-empty, held-full, held-fits, held-sum}
use Rattle.pack_gauge.proofs.amount.counted.Goals as goal

pub overflow_cast-sum-2 : goal.overflow_cast-sum-2
overflow_cast-sum-2 c = widen-fits _ c.ranges.current

pub overflow_add-sum : goal.overflow_add-sum
overflow_add-sum c = sum-fits _ c.ranges.current _ c.ranges.amount.fits

pub returns-then-sum-lt0 : goal.returns-then-sum-lt0
returns-then-sum-lt0 c = held-empty _ _ _ (sum-read _ c.ranges.current _ c.ranges.amount.fits) c.if-sum-lt0.true

pub returns-then-most-sum : goal.returns-then-most-sum
returns-then-most-sum c = held-full _ _ _ c.ranges.most.fits (sum-read _ c.ranges.current _ c.ranges.amount.fits) c.if-most-sum.true

pub overflow_cast-result : goal.overflow_cast-result
overflow_cast-result c = held-fits _ _ _ c.ranges.most.fits (sum-read _ c.ranges.current _ c.ranges.amount.fits) c.if-sum-lt0.false c.if-most-sum.false

pub returns : goal.returns
returns c = held-sum _ _ _ c.ranges.most.fits (sum-read _ c.ranges.current _ c.ranges.amount.fits) c.if-sum-lt0.false c.if-most-sum.false
