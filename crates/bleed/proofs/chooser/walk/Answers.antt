-- `bleed::chooser::walk` meets its contract
use Rattle.std.proofs.Common.{◌≡◌, sym, ◌∙◌, ◌-◌, arith}
use Rattle.bleed.proofs.Walk.Walked.{walked-met, walked-on, walked-none}
use Rattle.bleed.proofs.chooser.walk.Goals as goal

pub loop-init : goal.loop-init
loop-init c = let all : c.args.n - 0 ≡ c.args.n = omega arith in rw all

pub returns-then-eq : goal.returns-then-eq
returns-then-eq c = sym (walked-met _ _ _ _ _ _ _ _ (sym c.eq.ensures ∙ c.if-eq.true)) ∙ c.loop.invariant

pub loop-preserved : goal.loop-preserved
loop-preserved c =
    walked-on _ _ _ _ _ _ c.loop.cell _ c.loop.taken _ (omega arith) (sym c.eq.ensures ∙ c.if-eq.false) c.next_cell-cell.ensures c.take_one-taken.ensures
    ∙ c.loop.invariant

pub returns : goal.returns
returns c = let none : c.args.n - c.loop.counter ≡ 0 = omega arith in
    sym (walked-none _ _ _ _ _ _ _) ∙ rw none at c.loop.invariant
