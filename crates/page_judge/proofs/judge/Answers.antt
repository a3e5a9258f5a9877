-- `page_judge::judge` meets its contract: each way out is one of the table's. Assumes nothing.
use native.Mathlib.Omega.{arith}
use mathlib.Core.Path.{sym, ◌∙◌}
use borrow.Author.Tests.{eq-eqb, ne_eqb}
use lib.ListN.{length-take}
use Rattle.page_judge.specs.Walk.{judged-by, judged-answer}
use Rattle.page_judge.proofs.judge.Goals as goal

pub returns-then-page-end : goal.returns-then-page-end
returns-then-page-end c = judged-answer _ _
    (rw (
      judged-by _ _ c.layout_of-layout.ensures,
      ← c.check_at-end.ensures,
      ne_eqb _ _ c.if-page-end.true,
    )
    c.refused.ensures)

pub returns-then-read_backwards : goal.returns-then-read_backwards
returns-then-read_backwards c = judged-answer _ _
    (rw (
      judged-by _ _ c.layout_of-layout.ensures,
      ← c.check_at-end.ensures,
      eq-eqb _ _ c.if-page-end.false,
      ← c.word_at-mark.ensures,
      ← c.read_backwards.ensures,
      c.if-read_backwards.true,
    )
    c.refused-then-read_backwards.ensures)

pub returns-then-mark-layout : goal.returns-then-mark-layout
returns-then-mark-layout c = judged-answer _ _
    (rw (
      judged-by _ _ c.layout_of-layout.ensures,
      ← c.check_at-end.ensures,
      eq-eqb _ _ c.if-page-end.false,
      ← c.word_at-mark.ensures,
      ← c.read_backwards.ensures,
      c.if-read_backwards.false,
      ne_eqb _ _ c.if-mark-layout.true,
    )
    c.refused-then-mark-layout.ensures)

pub slice_bounds-before-end : goal.slice_bounds-before-end
slice_bounds-before-end c = rw length-take (omega arith)

pub returns-then-page-end-2 : goal.returns-then-page-end-2
returns-then-page-end-2 c = judged-answer _ _
    (rw (
      judged-by _ _ c.layout_of-layout.ensures,
      ← c.check_at-end.ensures,
      eq-eqb _ _ c.if-page-end.false,
      ← c.word_at-mark.ensures,
      ← c.read_backwards.ensures,
      c.if-read_backwards.false,
      eq-eqb _ _ c.if-mark-layout.false,
      ne_eqb _ _ (λ z. c.if-page-end-2.true (z ∙ sym c.check_byte.ensures)),
    )
    c.refused-then-page-end-2.ensures)

pub returns : goal.returns
returns c = judged-answer _ _
    (rw (
      judged-by _ _ c.layout_of-layout.ensures,
      ← c.check_at-end.ensures,
      eq-eqb _ _ c.if-page-end.false,
      ← c.word_at-mark.ensures,
      ← c.read_backwards.ensures,
      c.if-read_backwards.false,
      eq-eqb _ _ c.if-mark-layout.false,
      eq-eqb _ _ (c.if-page-end-2.false ∙ c.check_byte.ensures),
    )
    c.faults_of.ensures)
