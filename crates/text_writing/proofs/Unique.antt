-- Two results that one contract allows are equal, and so is the lent memory. The contracts are those that Rattle reads out of the source;
-- those of the writer's methods are in UniqueWriter.
use mathlib.Core.Path.{◌≡◌, sym, ◌∙◌}
use borrow.Fn.Kinds.{Dens, res_t, ended_of}
use contract.Lifetimes.{Lfts}
use denote.Triple.Clauses.{AtExit}
use Rattle.text_writing.proofs.put_digits.Reads as put-digits
use Rattle.text_writing.proofs.put_digits.Kinds as put-digits-kinds

-- it answers nothing, and what it leaves of the buffer is determined
put-digits-one : (κs : Lfts 1) (a : Dens κs put-digits-kinds.ps) (x y : (res_t put-digits-kinds.r κs).Denot)
    (s t : AtExit (ended_of 1 put-digits-kinds.ps put-digits-kinds.r) κs)
    → put-digits.Post κs a x s → put-digits.Post κs a y t → s.0.now ≡ t.0.now
put-digits-one κs a x y s t p q = p ∙ sym q
