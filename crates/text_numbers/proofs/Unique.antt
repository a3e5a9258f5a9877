-- Two results that one contract allows are equal, and so is the lent memory. The contracts are those that Rattle reads out of the source.
use mathlib.Core.Path.{sym, ◌∙◌}
use Rattle.laws.specs.Unique.{Unique}
use Rattle.text_numbers.proofs.number_to.Reads as number-to
use Rattle.text_numbers.proofs.number_to.Kinds as number-to-kinds
use Rattle.text_numbers.proofs.read_number.Reads as read_number
use Rattle.text_numbers.proofs.read_number.Kinds as read-number-kinds
use Rattle.text_numbers.proofs.with_sign.Reads as with-sign
use Rattle.text_numbers.proofs.with_sign.Kinds as with-sign-kinds
use Rattle.text_numbers.proofs.past_minus.Reads as past-minus
use Rattle.text_numbers.proofs.past_minus.Kinds as past-minus-kinds

number-to-one : Unique 1 number-to-kinds.ps number-to-kinds.r number-to.Post
number-to-one κs a x y s t p q = p ∙ sym q

read-number-one : Unique 1 read-number-kinds.ps read-number-kinds.r read_number.Post
read-number-one κs a x y s t p q = p ∙ sym q

with-sign-one : Unique 0 with-sign-kinds.ps with-sign-kinds.r with-sign.Post
with-sign-one κs a x y s t p q = p ∙ sym q

past-minus-one : Unique 1 past-minus-kinds.ps past-minus-kinds.r past-minus.Post
past-minus-one κs a x y s t p q = p.0 ∙ sym q.0
