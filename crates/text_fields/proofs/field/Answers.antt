-- `field` meets its contract: the part up to the place that was found is the field.
use native.Mathlib.Omega.{arith}
use Rattle.text_fields.specs.Splitting.{field-part, field-length, field-past}
use Rattle.text_fields.proofs.field.Goals as goal

pub returns-then-n-from : goal.returns-then-n-from
returns-then-n-from c = let a = c.args in let both = field-past a.line.now a.from (omega arith) in record { result_value = both.0; result_in_bounds = both.1 }

pub returns : goal.returns
returns c = let a = c.args in
    let e = field-part a.line.now a.from _ c.find-e.ensures.value in
    record { result_value = e; result_in_bounds = rw e (field-length a.line.now a.from) }
