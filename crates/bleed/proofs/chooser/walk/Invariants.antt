-- `bleed::chooser::walk` meets its contract. The loop's invariant: what the cells that are left make of the word is what all cells make of
-- the empty one, so that at the end the word is the whole walk's.
-- Assumes nothing.
use Rattle.std.proofs.Common.{◌≡◌, ◌-◌}
use Rattle.bleed.specs.Walk.Reached.{walked}
use Rattle.bleed.proofs.chooser.walk.Given as goal

abbrev pub invariant-loop : goal.invariant-loop
invariant-loop l = walked l.until (l.n - l.counter) l.n l.most l.want l.rest l.cell.0 l.taken ≡ walked l.until l.n l.n l.most l.want l.rest l.initial.cell.0 0
