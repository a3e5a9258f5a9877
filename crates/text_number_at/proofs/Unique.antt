-- Two results that one contract allows are equal, and so is the lent memory. The contracts are those that Rattle reads out of the source.
use mathlib.Core.Path.{sym, ◌∙◌}
use Rattle.laws.specs.Unique.{Unique}
use Rattle.text_number_at.proofs.number_at.Reads as number_at
use Rattle.text_number_at.proofs.number_at.Kinds as number-at-kinds
use Rattle.text_number_at.proofs.number_along.Reads as number-along
use Rattle.text_number_at.proofs.number_along.Kinds as number-along-kinds
use Rattle.text_number_at.proofs.four_tabbed.Reads as four-tabbed
use Rattle.text_number_at.proofs.four_tabbed.Kinds as four-tabbed-kinds

number-at-one : Unique 1 number-at-kinds.ps number-at-kinds.r number_at.Post
number-at-one κs a x y s t p q = p ∙ sym q

number-along-one : Unique 1 number-along-kinds.ps number-along-kinds.r number-along.Post
number-along-one κs a x y s t p q = p ∙ sym q

four-tabbed-one : Unique 1 four-tabbed-kinds.ps four-tabbed-kinds.r four-tabbed.Post
four-tabbed-one κs a x y s t p q = p ∙ sym q
