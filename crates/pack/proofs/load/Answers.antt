-- `pack::load` meets its contract. Assumes nothing.
use Rattle.pack.specs.Calls.{load-is}
use Rattle.pack.proofs.load.Goals as goal

pub invariant_of-result : goal.invariant_of-result
invariant_of-result c = (load-is _ _ _ c.load-loaded.ensures.0 c.fresh_pack-pack.ensures).1.1

pub returns : goal.returns
returns c = let both = load-is _ _ _ c.load-loaded.ensures.0 c.fresh_pack-pack.ensures in record { value = both.0; verdict_value = both.1.0 }
