-- `page_settings::rules_of` meets its contract: words 1 to 3 fit a byte. Assumes nothing.
use native.Mathlib.Omega.{arith}
use Rattle.page_judge.specs.Accepted.{accepted-inside}
use Rattle.page_settings.proofs.rules_of.Goals as goal

pub small-requires : goal.small-requires
small-requires c = let k = accepted-inside _ c.requires 1 (omega arith) in omega arith

pub small-requires-2 : goal.small-requires-2
small-requires-2 c = let k = accepted-inside _ c.requires 2 (omega arith) in omega arith

pub small-requires-3 : goal.small-requires-3
small-requires-3 c = let k = accepted-inside _ c.requires 3 (omega arith) in omega arith
