-- `find` meets its contract
use mathlib.Core.Path.{sym, ◌∙◌}
use native.Mathlib.Omega.{arith}
use Rattle.text_fields.specs.Finding.{find-behind}
use Rattle.text_fields.proofs.find.Goals as goal

pub loop-e-preserved : goal.loop-e-preserved
loop-e-preserved c = let l = c.loop-e in (
  omega arith,
  omega arith,
  find-behind 15 _ _ l.e (omega arith) (sym c.none_here.ensures ∙ c.if-none_here.true) ∙ l.invariant.2,
)
