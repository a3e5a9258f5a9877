-- Two replies that one contract allows are equal, and so is the lent buffer. The contract is the one that Rattle reads out of the source
-- (`Reads.Post`).
-- Assumes nothing.
use mathlib.Core.Path.{◌≡◌, sym, ◌∙◌}
use borrow.Fn.Kinds.{Dens, res_t, ended_of}
use contract.Lifetimes.{Lfts}
use denote.Triple.Clauses.{AtExit}
use Rattle.bus.proofs.reply.reply.Reads as reply
use Rattle.bus.proofs.reply.reply.Kinds as reply-kinds
use Rattle.bus.proofs.reply.put_word.Reads as put_word
use Rattle.bus.proofs.reply.put_word.Kinds as put-word-kinds

reply-one : (κs : Lfts 1) (a : Dens κs reply-kinds.ps) (x y : (res_t reply-kinds.r κs).Denot)
    (s t : AtExit (ended_of 1 reply-kinds.ps reply-kinds.r) κs)
    → reply.Post κs a x s → reply.Post κs a y t → (x ≡ y) × (s.1.1.0.now ≡ t.1.1.0.now)
reply-one κs a x y s t p q = (p.0.0 ∙ sym q.0.0, p.1 ∙ sym q.1)

put-word-one : (κs : Lfts 1) (a : Dens κs put-word-kinds.ps) (x y : (res_t put-word-kinds.r κs).Denot)
    (s t : AtExit (ended_of 1 put-word-kinds.ps put-word-kinds.r) κs)
    → put_word.Post κs a x s → put_word.Post κs a y t → (x ≡ y) × (s.1.1.0.now ≡ t.1.1.0.now)
put-word-one κs a x y s t p q = (p.0.0 ∙ sym q.0.0, p.1 ∙ sym q.1)
