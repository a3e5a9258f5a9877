-- Two results that the contract of a public function allows are equal. The page is lent to be read only, so no memory is changed.
-- Assumes nothing.
use mathlib.Core.Path.{sym, ◌∙◌}
use Rattle.laws.specs.Unique.{Unique}
use Rattle.page_words.proofs.byte_at.Reads as byte_at
use Rattle.page_words.proofs.byte_at.Kinds as byte-at-kinds
use Rattle.page_words.proofs.word_at.Reads as word_at
use Rattle.page_words.proofs.word_at.Kinds as word-at-kinds
use Rattle.page_words.proofs.within.Reads as within
use Rattle.page_words.proofs.within.Kinds as within-kinds
use Rattle.page_words.proofs.level_fits.Reads as level-fits
use Rattle.page_words.proofs.level_fits.Kinds as level-fits-kinds
use Rattle.page_words.proofs.level_of.Reads as level-of
use Rattle.page_words.proofs.level_of.Kinds as level-of-kinds
use Rattle.page_words.proofs.in_order.Reads as in_order
use Rattle.page_words.proofs.in_order.Kinds as in-order-kinds

byte-at-one : Unique 1 byte-at-kinds.ps byte-at-kinds.r byte_at.Post
byte-at-one κs a x y s t p q = p ∙ sym q

word-at-one : Unique 1 word-at-kinds.ps word-at-kinds.r word_at.Post
word-at-one κs a x y s t p q = p ∙ sym q

within-one : Unique 0 within-kinds.ps within-kinds.r within.Post
within-one κs a x y s t p q = p ∙ sym q

level-fits-one : Unique 0 level-fits-kinds.ps level-fits-kinds.r level-fits.Post
level-fits-one κs a x y s t p q = p ∙ sym q

level-of-one : Unique 0 level-of-kinds.ps level-of-kinds.r level-of.Post
level-of-one κs a x y s t p q = p ∙ sym q

in-order-one : Unique 0 in-order-kinds.ps in-order-kinds.r in_order.Post
in-order-one κs a x y s t p q = p ∙ sym q
