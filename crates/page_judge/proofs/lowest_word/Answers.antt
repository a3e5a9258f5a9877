-- `page_judge::lowest_word` meets its contract. Assumes nothing.
use mathlib.Core.Path.{◌≡◌, sym, ap, ◌∙◌}
use Prim.Native.Nat.{ℕ, suc, ◌+◌, ◌-◌}
use native.Mathlib.Omega.{arith}
use native.Mathlib.Numerals.{unary_clauses}
use Rattle.page_judge.specs.Walk.{lowest_from, starts, goes-on, refuses, ends}
use Rattle.page_judge.proofs.lowest_word.Goals as goal

pub loop-i-init : goal.loop-i-init
loop-i-init c = simp unary_clauses (starts _ _ _)

pub returns-then-not-meets : goal.returns-then-not-meets
returns-then-not-meets c = sym (c.loop-i.invariant ∙ refuses _ _ _ _ _ (omega arith) (sym c.meets.ensures ∙ c.if-not-meets.true))

pub loop-i-preserved : goal.loop-i-preserved
loop-i-preserved c =
    let e : suc c.args.layout.last - c.loop-i.i - 1 ≡ suc c.args.layout.last - (c.loop-i.i + 1) = omega arith in
    c.loop-i.invariant ∙ goes-on _ _ _ _ _ (omega arith) (sym c.meets.ensures ∙ c.if-not-meets.false)
    ∙ ap (λ (k : ℕ). lowest_from c.args.layout c.args.row c.args.page.now (c.loop-i.i + 1) k) e

pub returns-else-not-meets : goal.returns-else-not-meets
returns-else-not-meets c =
    sym
    (c.loop-i.invariant ∙ goes-on _ _ _ _ _ (omega arith) (sym c.meets.ensures ∙ c.if-not-meets.false)
    ∙ ends _ _ _ _ _ (omega arith))
