-- `season_sum::figure_in` meets its contract. Assumes nothing.
use mathlib.Core.Path.{sym, ◌∙◌}
use Rattle.season_sum.specs.Reading.{other-name, no-tab, tabbed}
use Rattle.season_sum.proofs.figure_in.Goals as goal

pub returns-in_err-rest : goal.returns-in_err-rest
returns-in_err-rest c = let a = c.args in
    c.from_residual.ensures ∙ sym (other-name a.name.now a.line.now c.in_err-rest.ensures.cases)

pub returns-in_err-field : goal.returns-in_err-field
returns-in_err-field c = let a = c.args in
    let r = c.in_ok-rest.ensures.cases in
    c.from_residual-in_err-field.ensures ∙ sym (no-tab a.name.now a.line.now c.in_ok-rest.rest.now r.1 r.0 c.in_err-field.ensures.cases)

pub returns : goal.returns
returns c = let a = c.args in
    let r = c.in_ok-rest.ensures.cases in
    let f = c.in_ok-field.ensures.cases in
    rw f.1 at c.number_to.ensures ∙ tabbed a.name.now a.line.now c.in_ok-rest.rest.now r.1 r.0 f.0
