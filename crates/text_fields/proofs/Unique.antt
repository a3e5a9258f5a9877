-- Two results that one contract allows are equal, and so is the lent memory. The contracts are those that Rattle reads out of the source.
use mathlib.Core.Path.{◌≡◌, sym, ◌∙◌}
use borrow.Fn.Kinds.{Dens, res_t, ended_of}
use Rattle.laws.specs.Unique.{Unique}
use contract.Lifetimes.{Lfts}
use denote.Triple.Clauses.{AtExit}
use Rattle.text_fields.proofs.find.Reads as find
use Rattle.text_fields.proofs.find.Kinds as find-kinds
use Rattle.text_fields.proofs.field.Reads as field
use Rattle.text_fields.proofs.field.Kinds as field-kinds

find-one : Unique 1 find-kinds.ps find-kinds.r find.Post
find-one κs a x y s t p q = p.0 ∙ sym q.0

-- the field's bytes; that they are a part of the caller's line is what its type says
field-one : (κs : Lfts 1) (a : Dens κs field-kinds.ps) (x y : (res_t field-kinds.r κs).Denot)
    (s t : AtExit (ended_of 1 field-kinds.ps field-kinds.r) κs)
    → field.Post κs a x s → field.Post κs a y t → x.now ≡ y.now
field-one κs a x y s t p q = p.0 ∙ sym q.0
