-- `number_at` meets its contract: the quick way is right where it is taken.
use mathlib.Core.Path.{sym, ◌∙◌}
use Rattle.text_number_at.specs.NumberAt.{four-read, four-quick}
use Rattle.text_number_at.proofs.number_at.Goals as goal

pub returns-in-Some : goal.returns-in-Some
returns-in-Some c = let a = c.args in
    four-quick a.line.now a.from (sym c.four_left.ensures ∙ c.if-four_left.true)
    _ (four-read a.line.now a.from (λ i. (c.type_inv.line i).fits) _ (sym c.in-Some.ensures))
