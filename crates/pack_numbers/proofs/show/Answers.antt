-- `pack_numbers::show` meets its contract. Assumes nothing.
use mathlib.Core.Path.{sym, ◌∙◌}
use Rattle.pack_numbers.specs.Calls.{shown_of, shown-yes, shown-no}
use Rattle.pack_numbers.proofs.show.Goals as goal

pub returns-then-not-is_pack : goal.returns-then-not-is_pack
returns-then-not-is_pack c = c.not_shown.ensures ∙ shown-no _ (sym c.is_pack.ensures ∙ c.if-not-is_pack.true)

pub returns : goal.returns
unfolding shown_of
returns c = shown-yes _ _ _ (sym c.is_pack.ensures ∙ c.if-not-is_pack.false) c.pack_of.ensures.0 c.decide-d.ensures
