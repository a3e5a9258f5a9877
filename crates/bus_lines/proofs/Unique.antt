-- Two results that one contract allows are equal, and so is the lent memory. The contract is the one that Rattle reads out of the source.
-- Assumes nothing.
use mathlib.Core.Path.{◌≡◌}
use borrow.Fn.Kinds.{Dens, res_t, ended_of}
use contract.Lifetimes.{Lfts}
use denote.Triple.Clauses.{AtExit}
use Rattle.text_writing.specs.Putting.{put-one}
use Rattle.bus_lines.proofs.put_words.Reads as put-words
use Rattle.bus_lines.proofs.put_words.Kinds as put-words-kinds
use Rattle.bus_lines.proofs.put_reply.Reads as put-reply
use Rattle.bus_lines.proofs.put_reply.Kinds as put-reply-kinds

put-words-one : (κs : Lfts 1) (a : Dens κs put-words-kinds.ps) (x y : (res_t put-words-kinds.r κs).Denot)
    (s t : AtExit (ended_of 1 put-words-kinds.ps put-words-kinds.r) κs)
    → put-words.Post κs a x s → put-words.Post κs a y t → (x ≡ y) × (s.1.0.now ≡ t.1.0.now)
put-words-one κs a x y s t p q = put-one p.0 q.0

put-reply-one : (κs : Lfts 1) (a : Dens κs put-reply-kinds.ps) (x y : (res_t put-reply-kinds.r κs).Denot)
    (s t : AtExit (ended_of 1 put-reply-kinds.ps put-reply-kinds.r) κs)
    → put-reply.Post κs a x s → put-reply.Post κs a y t → (x ≡ y) × (s.0.now ≡ t.0.now)
put-reply-one κs a x y s t p q = put-one p.0 q.0
