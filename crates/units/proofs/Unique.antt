-- Two answers that a contract of `units` allows are equal. Assumes nothing.
use mathlib.Core.Path.{sym, ◌∙◌}
use Rattle.laws.specs.Unique.{Unique}
use Rattle.units.proofs.ten_at_most.Kinds as ten-at-most-kinds
use Rattle.units.proofs.ten_at_most.Reads as ten-at-most
use Rattle.units.proofs.signed_of.Kinds as signed-of-kinds
use Rattle.units.proofs.signed_of.Reads as Signed-of
use Rattle.units.proofs.word_of.Kinds as word-of-kinds
use Rattle.units.proofs.word_of.Reads as word_of

ten-at-most-one : Unique 0 ten-at-most-kinds.ps ten-at-most-kinds.r ten-at-most.Post
ten-at-most-one κs a x y s t p q = p ∙ sym q

signed-of-one : Unique 0 signed-of-kinds.ps signed-of-kinds.r Signed-of.Post
signed-of-one κs a x y s t p q = p ∙ sym q

word-of-one : Unique 0 word-of-kinds.ps word-of-kinds.r word_of.Post
word-of-one κs a x y s t p q = p ∙ sym q
