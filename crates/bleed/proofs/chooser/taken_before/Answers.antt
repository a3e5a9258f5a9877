-- `bleed::chooser::taken_before` meets its contract
use Rattle.std.proofs.Common.{sym, ◌∙◌}
use Rattle.bleed.specs.Walk.Reached.{walked}
use Rattle.bleed.proofs.Walk.Reached.{taken-is, taken-nowhere}
use Rattle.bleed.proofs.chooser.taken_before.Goals as goal

pub returns-then-not-is_cell : goal.returns-then-not-is_cell
returns-then-not-is_cell c = sym (taken-nowhere _ _ _ _ _ _ (sym c.is_cell.ensures ∙ c.if-not-is_cell.true))

pub returns : goal.returns
unfolding walked
returns c = c.walk.ensures ∙ taken-is _ _ _ _ _ _ (sym c.is_cell.ensures ∙ c.if-not-is_cell.false)
