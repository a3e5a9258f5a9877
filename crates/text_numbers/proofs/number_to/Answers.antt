-- `number_to` meets its contract: each way out is a case of the definition.
use mathlib.Core.Path.{sym, ◌∙◌}
use native.Mathlib.Omega.{arith}
use borrow.Author.Tests.{eqb-true, eqb-false}
use Rattle.text_numbers.specs.Canonical.{number-empty, number-single, number-zero, number-other}
use Rattle.text_numbers.proofs.number_to.Goals as goal
use Rattle.text_numbers.proofs.number_to.Goals.{else-field-gt1-via-then-field-gt1+else-field-eq48, else-field-gt1-via-else-field-gt1}

pub returns-then-is_empty : goal.returns-then-is_empty
returns-then-is_empty c = sym (number-empty _ _ (eqb-true _ 0 (sym c.if-is_empty.ensures)))

pub returns-then-field-eq48 : goal.returns-then-field-eq48
returns-then-field-eq48 c = sym (number-zero _ _ (omega arith) c.if-field-eq48.true)

pub returns : goal.returns
returns c = let some = eqb-false _ 0 (sym c.if-is_empty.ensures) in
    c.digits.ensures ∙ elim c.else-field-gt1.branch [
      | else-field-gt1-via-then-field-gt1+else-field-eq48 w ↦ sym (number-other _ _ (omega arith) w.if-field-eq48.false)
      | else-field-gt1-via-else-field-gt1 w ↦ sym (number-single _ _ (omega (arith, some)))
    ]
