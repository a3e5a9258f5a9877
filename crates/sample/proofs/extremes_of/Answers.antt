-- `sample::extremes_of` meets its contract: after i cells, e are the extremes of the first i, which are no more than are looked at. Assumes nothing.
use Rattle.std.proofs.Common.{◌≡◌, sym, ap, ◌∙◌, arith}
use Rattle.units.specs.Cells.{ten-most}
use Rattle.sample.specs.Cells.{extremes_of, extremes_to, extremes-none, extremes-first, extremes-next}
use Rattle.sample.proofs.extremes_of.Goals as goal

pub returns-then-n-eq0 : goal.returns-then-n-eq0
returns-then-n-eq0 c = extremes-none _ _ (sym c.ten_at_most-n.ensures ∙ c.if-n-eq0.true)

pub loop-i-init : goal.loop-i-init
loop-i-init c = record { looked = omega arith; ten = rw c.ten_at_most-n.ensures (ten-most c.args.count); so_far = extremes-first _ }

pub returns-then-n-i : goal.returns-then-n-i
unfolding extremes_of
returns-then-n-i c = let looked = c.ten_at_most-n in
    let k : c.loop-i.i ≡ looked.result = omega arith in
    c.loop-i.invariant.so_far ∙ ap (extremes_to c.args.cells) (k ∙ looked.ensures)

pub loop-i-preserved : goal.loop-i-preserved
loop-i-preserved c = record { looked = omega arith; ten = omega arith; so_far = c.widened-e.ensures ∙ extremes-next _ _ _ (omega arith) c.loop-i.invariant.so_far }

pub returns : goal.returns
unfolding extremes_of
returns c = let looked = c.ten_at_most-n in
    let k : c.loop-i.i ≡ looked.result = omega arith in
    c.loop-i.invariant.so_far ∙ ap (extremes_to c.args.cells) (k ∙ looked.ensures)
