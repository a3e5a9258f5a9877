-- `guard_raised::lowest_raised` meets its contract. Assumes nothing.
use Rattle.std.proofs.Common.{rules, tests, ap}
use Rattle.std.proofs.lemmas.Iterator.{YieldsList-from_slice}
use Rattle.std.proofs.lemmas.Iterator.Search.{position_from_yields_List}
use Rattle.guard.specs.Steps.{no_protection}
use Rattle.guard.specs.Runs.{is_raised}
use Rattle.guard.specs.declared.rule.Protection.{Protection}
use Rattle.guard_raised.specs.Lowest.{numbered}
use Rattle.guard_raised.proofs.Places.{found-list}
use Rattle.guard_raised.proofs.lowest_raised.Goals as goal

pub returns : goal.returns
returns c =
    let found = position_from_yields_List (λ (p : Protection). is_raised p.alarm) _ _ c.position-at.result c.position-at.ensures.ran (YieldsList-from_slice c.args.ps cc) (λ x b q k. search (rules, tests)) in
    ap numbered (rw (c.unwrap_or.ensures, found) (found-list (λ (p : Protection). is_raised p.alarm) c.args.ps no_protection 10 (search rules)))
