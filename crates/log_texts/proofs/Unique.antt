-- Two results that one contract allows are equal, and so is the lent memory. The contracts are those that Rattle reads out of the source.
-- Assumes nothing.
use mathlib.Core.Path.{◌≡◌}
use borrow.Fn.Kinds.{Dens, res_t, ended_of}
use contract.Lifetimes.{Lfts}
use denote.Triple.Clauses.{AtExit}
use Rattle.text_writing.specs.Putting.{put-one}
use Rattle.log_texts.specs.Room.{opened-one}
use Rattle.log_texts.proofs.put_told.Reads as put-told
use Rattle.log_texts.proofs.put_told.Kinds as put-told-kinds
use Rattle.log_texts.proofs.put_opening.Reads as put-opening
use Rattle.log_texts.proofs.put_opening.Kinds as put-opening-kinds

put-told-one : (κs : Lfts 1) (a : Dens κs put-told-kinds.ps) (x y : (res_t put-told-kinds.r κs).Denot)
    (s t : AtExit (ended_of 1 put-told-kinds.ps put-told-kinds.r) κs)
    → put-told.Post κs a x s → put-told.Post κs a y t → (x ≡ y) × (s.0.now ≡ t.0.now)
put-told-one κs a x y s t p q = put-one p.0 q.0

put-opening-one : (κs : Lfts 1) (a : Dens κs put-opening-kinds.ps) (x y : (res_t put-opening-kinds.r κs).Denot)
    (s t : AtExit (ended_of 1 put-opening-kinds.ps put-opening-kinds.r) κs)
    → put-opening.Post κs a x s → put-opening.Post κs a y t → (x ≡ y) × (s.0.now ≡ t.0.now)
put-opening-one κs a x y s t p q = opened-one p q
