-- `page_pocket::load` meets its contract. Assumes nothing.
use mathlib.Core.Path.{ap}
use Rattle.pack.specs.declared.Answered.{Answered}
use Rattle.page_pocket.specs.Profile.{load-accepted, load-refused}
use Rattle.page_pocket.proofs.load.Goals as goal

pub returns-in-Ok : goal.returns-in-Ok
returns-in-Ok c = let both = load-accepted _ _ _ c.judge-verdict.ensures c.in-Ok.is c.load.ensures.value in record { value = both.0; verdict_value = both.1.0 }

pub returns-in-Err : goal.returns-in-Err
returns-in-Err c = let both = load-refused _ _ _ _ _ c.judge-verdict.ensures c.in-Err.is
    (ap (λ (a : Answered). a.pack) c.load-none.ensures.value) in record { value = both.0; verdict_value = both.1.0 }
