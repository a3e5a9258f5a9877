-- `guard_raised::blocks` meets its contract. Assumes nothing.
use Rattle.std.proofs.Common.{◌∙◌, rules, tests}
use Rattle.std.proofs.lemmas.Iterator.{YieldsList-from_slice}
use Rattle.std.proofs.lemmas.Iterator.Search.{any_from_yields_List}
use Rattle.guard.specs.Steps.{no_protection}
use Rattle.guard_raised.specs.Words.{blocks_one, blocks_any}
use Rattle.guard_raised.proofs.Places.{any-list}
use Rattle.guard_raised.proofs.blocks.Goals as goal

pub returns : goal.returns
unfolding blocks_any
returns c =
    any_from_yields_List (blocks_one c.args.switch) _ _ _ c.any.ensures.ran (YieldsList-from_slice c.args.ps cc) (λ x b q k. search (rules, tests))
    ∙ any-list (blocks_one c.args.switch) c.args.ps no_protection 10 (search rules)
