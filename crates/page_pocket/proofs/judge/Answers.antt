-- `page_pocket::judge` meets its contract. Assumes nothing.
use mathlib.Core.Path.{◌≡◌, sym, ◌∙◌}
use Rattle.std.proofs.Common.{Err, rules}
use Rattle.page_pocket.specs.Profile.{pocket-general, pocket-profile, pocket-answer}
use Rattle.page_pocket.proofs.judge.Goals as goal

pub returns-in_err-judge : goal.returns-in_err-judge
returns-in_err-judge c =
    let r = c.in_err-judge.field-0.0 in
    let told : c.from_residual.result ≡ Err r = search rules in
    pocket-answer _ _ (told ∙ sym (pocket-general _ r.number r.word (sym c.judge.ensures.0 ∙ c.in_err-judge.was)))

pub returns : goal.returns
returns c = pocket-answer _ _ (c.pocket_fault.ensures ∙ sym (pocket-profile _ (sym c.judge.ensures.0 ∙ c.in_ok-judge.was)))
