-- `pack_log::next::next_entry` meets its contract: a line read along is the line up to the next newline. Assumes nothing.
use mathlib.Core.Path.{sym}
use native.Mathlib.Omega.{arith}
use Rattle.log_lines.specs.Walking.{next-ends}
use Rattle.log_entries.proofs.AheadLaws.{ahead-is}
use Rattle.pack_log.specs.Next.{next-ahead, next-read, next-none}
use Rattle.pack_log.proofs.next.next_entry.Goals as goal

pub overflow_add-result : goal.overflow_add-result
overflow_add-result c = let r = ahead-is _ _ c.in-Some.field-0 (sym c.in-Some.ensures) in omega (arith, r.0, r.1)

pub returns-in-Some : goal.returns-in-Some
returns-in-Some c = next-ahead _ _ c.in-Some.field-0 (sym c.in-Some.ensures)

pub returns-in_err-end : goal.returns-in_err-end
returns-in_err-end c = rw c.from_residual.ensures (next-none _ _ (sym c.in_err-end.ensures))

pub slice_bounds-line-count : goal.slice_bounds-line-count
slice_bounds-line-count c = let n = c.in_ok-end.field-0 in let e = next-ends _ _ n.end n.next (sym c.in_ok-end.ensures) in omega arith

pub slice_bounds-line-start : goal.slice_bounds-line-start
slice_bounds-line-start c = let n = c.in_ok-end.field-0 in let e = next-ends _ _ n.end n.next (sym c.in_ok-end.ensures) in omega arith

pub slice_bounds-line-end : goal.slice_bounds-line-end
slice_bounds-line-end c = let n = c.in_ok-end.field-0 in let e = next-ends _ _ n.end n.next (sym c.in_ok-end.ensures) in omega arith

pub returns : goal.returns
returns c = let n = c.in_ok-end.field-0 in
    next-read _ _ n.end n.next _ (sym c.in_ok-end.ensures) c.read_entry-entry.ensures
