-- `guard::all::fresh` meets its contract: each of the limits is mapped to a clear protection. Assumes nothing.
use Rattle.std.proofs.Common.{rules}
use Rattle.protections.specs.Limits.{no_limits}
use Rattle.guard.specs.Steps.{no_protection}
use Rattle.guard.specs.StepLaws.{fresh-each}
use Rattle.guard.proofs.all.fresh.Goals as goal

pub returns : goal.returns
returns c =
    fresh-each c.args.ls c.map.result c.map.ensures.items.long
    (λ p q. let called = c.map.ensures.items.at p no_limits no_protection q in search rules)
