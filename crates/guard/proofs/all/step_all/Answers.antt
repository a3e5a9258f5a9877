-- `guard::all::step_all` meets its contract: the first five and then the others are all. Assumes nothing.
use mathlib.Core.Path.{◌∙◌, ap}
use native.Mathlib.Omega.{arith}
use Rattle.protections.specs.Table.{protections}
use Rattle.guard.specs.Steps.{step_some}
use Rattle.guard.specs.StepLaws.{step-parts}
use Rattle.guard.proofs.all.step_all.Goals as goal

pub returns : goal.returns
returns c = let a = c.args in
    c.step_some.ensures ∙ ap (step_some a.e a.s 5 protections) c.step_some-half.ensures
    ∙ step-parts a.e a.s 5 (omega arith) a.ps
