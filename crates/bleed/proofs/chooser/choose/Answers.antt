-- `bleed::chooser::choose` meets its contract
use Rattle.std.proofs.Common.{sym, ◌∙◌}
use Rattle.bleed.specs.Walk.Reached.{walked}
use Rattle.bleed.proofs.Walk.StepLaws.{chosen-is, chosen-nowhere, chosen-meets, chosen-none}
use Rattle.bleed.proofs.chooser.choose.Goals as goal
use Rattle.bleed.proofs.chooser.choose.Goals.{then-want-eq0-via-then-want-eq0, then-want-eq0-via-else-want-eq0+then-not-is_cell}

pub returns-then-want-eq0 : goal.returns-then-want-eq0
returns-then-want-eq0 c =
    chosen-meets _ _ _ _ _ _ (elim c.then-want-eq0.branch [
      | then-want-eq0-via-then-want-eq0 w ↦ rw w.if-want-eq0.true (sym (chosen-none _ _ _ _))
      | then-want-eq0-via-else-want-eq0+then-not-is_cell w ↦ sym (chosen-nowhere _ _ _ _ _ (sym w.is_cell.ensures ∙ w.if-not-is_cell.true))
    ])

pub returns : goal.returns
unfolding walked
returns c = chosen-meets _ _ _ _ _ _ (c.walk.ensures ∙ chosen-is _ _ _ _ _ (sym c.is_cell.ensures ∙ c.if-not-is_cell.false))
