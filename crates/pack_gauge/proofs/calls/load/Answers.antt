-- `pack_gauge::calls::load` meets its contract. Assumes nothing.
use Rattle.std.proofs.Common.{arith}
use Rattle.pack_gauge.specs.Ends.{load-fits, load-not, start-small}
use Rattle.pack_gauge.proofs.calls.load.Goals as goal

pub overflow_cast-metered : goal.overflow_cast-metered
overflow_cast-metered c = let k = start-small _ _ _ c.start_fits-ok.ensures c.if-ok.true in record { fits = omega (arith, k.0) }

pub overflow_mul-metered : goal.overflow_mul-metered
overflow_mul-metered c = let k = start-small _ _ _ c.start_fits-ok.ensures c.if-ok.true in record { fits = omega (arith, k.1) }

pub invariant_of-result : goal.invariant_of-result
invariant_of-result c = (load-fits _ _ _ _ _ _ c.load-a.ensures.value c.start_fits-ok.ensures c.with_start-verdict.ensures c.if-ok.true).1.1

pub returns-then-ok : goal.returns-then-ok
returns-then-ok c = let both = load-fits _ _ _ _ _ _ c.load-a.ensures.value c.start_fits-ok.ensures c.with_start-verdict.ensures c.if-ok.true in record { value = both.0; verdict_value = both.1.0 }

pub invariant_of-result-2 : goal.invariant_of-result-2
invariant_of-result-2 c = (load-not _ _ _ _ _ _ c.load-a.ensures.value c.start_fits-ok.ensures c.with_start-verdict.ensures c.if-ok.false).1.1

pub returns : goal.returns
returns c = let both = load-not _ _ _ _ _ _ c.load-a.ensures.value c.start_fits-ok.ensures c.with_start-verdict.ensures c.if-ok.false in record { value = both.0; verdict_value = both.1.0 }
