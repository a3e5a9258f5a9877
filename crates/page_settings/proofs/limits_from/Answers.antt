-- `page_settings::limits_from` meets its contract: each of the three words fits a byte. Assumes nothing.
use native.Mathlib.Omega.{arith}
use Rattle.page_judge.specs.Accepted.{accepted-limits}
use Rattle.page_settings.proofs.limits_from.Goals as goal

pub small-requires : goal.small-requires
small-requires c = rw c.trip_word-at.ensures (let k = accepted-limits _ c.requires.0 c.args.p.0 c.requires.1 in omega arith)

pub small-requires-2 : goal.small-requires-2
small-requires-2 c = rw c.trip_word-at.ensures (let k = accepted-limits _ c.requires.0 c.args.p.0 c.requires.1 in omega arith)

pub small-requires-3 : goal.small-requires-3
small-requires-3 c = rw c.trip_word-at.ensures (let k = accepted-limits _ c.requires.0 c.args.p.0 c.requires.1 in omega arith)
