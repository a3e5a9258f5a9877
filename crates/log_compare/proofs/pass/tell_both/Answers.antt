-- `log_compare::pass::tell_both` meets its contract. Assumes nothing.
use Rattle.log_compare.specs.Pass.{told-both}
use Rattle.log_compare.proofs.pass.tell_both.Goals as goal

pub invariant_of-result : goal.invariant_of-result
invariant_of-result c = (c.first.invariant, c.second.invariant)

pub returns : goal.returns
returns c =
    rw (← c.b.view_is, c.first.view_is, c.second.view_is)
    (told-both _ _ _ _ _ _ (c.tell_entry-t.ensures, rw (← c.first.view_is) c.first.invariant)
    (c.tell_entry-u.ensures, rw (← c.second.view_is) c.second.invariant) c.differ.ensures c.with_line.ensures).0
