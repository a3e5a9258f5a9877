-- `number_along` meets its contract: the quick way is right where it is taken.
use mathlib.Core.Path.{sym, ◌∙◌}
use Rattle.text_number_at.specs.NumberAt.{four-read}
use Rattle.text_number_at.specs.Along.{along-quick}
use Rattle.text_number_at.proofs.number_along.Goals as goal

pub returns-in-Some : goal.returns-in-Some
returns-in-Some c = let a = c.args in
    along-quick a.bytes.now a.from (sym c.four_ended.ensures ∙ c.if-four_ended.true)
    _ (four-read a.bytes.now a.from (λ i. (c.type_inv.bytes i).fits) _ (sym c.in-Some.ensures))
