-- `page_pocket::word_fault` meets its contract. Assumes nothing.
use mathlib.Core.Path.{◌≡◌, refl, sym, ap, ◌∙◌}
use Prim.Native.Nat.{◌+◌, ◌-◌}
use native.Mathlib.Omega.{arith}
use Rattle.page_pocket.specs.Pocket.{word_fault, fault_from, met-at, fault-on, fault-refuses, fault-ends}
use Rattle.page_pocket.proofs.word_fault.Goals as goal

pub loop-word-init : goal.loop-word-init
unfolding word_fault
loop-word-init c = refl

pub loop-word-preserved : goal.loop-word-preserved
loop-word-preserved c = let i = c.loop-word.word-index in
    let less : 11 - i - 1 ≡ 11 - (i + 1) = omega arith in
    c.loop-word.invariant
    ∙ fault-on _ i (11 - i) (omega arith) (met-at _ i _ _ _ c.from.ensures c.word_at.ensures c.fits.ensures ∙ c.if-not-fits.false)
    ∙ ap (fault_from _ (i + 1)) less

pub returns-then-not-fits : goal.returns-then-not-fits
returns-then-not-fits c = let i = c.loop-word.word-index in
    sym
    (c.loop-word.invariant
    ∙ fault-refuses _ i (11 - i) (omega arith) (met-at _ i _ _ _ c.from.ensures c.word_at.ensures c.fits.ensures ∙ c.if-not-fits.true))

pub returns : goal.returns
returns c = sym (c.loop-word.invariant ∙ fault-ends _ _ _ (omega arith))
