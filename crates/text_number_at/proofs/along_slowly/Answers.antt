-- `along_slowly` meets its contract: the end of the field is found, and then the field is read.
use mathlib.Core.Path.{ap, ◌∙◌}
use native.Mathlib.Omega.{arith}
use Rattle.text_numbers.specs.Numbers.{read_number}
use Rattle.text_number_at.specs.Along.{along-part, along-read}
use Rattle.text_number_at.proofs.along_slowly.Goals as goal

pub returns : goal.returns
returns c = let a = c.args in
    let h = c.field_end-end.ensures.value in
    c.with_end.ensures ∙ along-read a.bytes.now a.from _ h (omega arith) _ (ap read_number (along-part a.bytes.now a.from _ h))
