-- Two results that one contract allows are equal, and so is the lent memory. The contracts are those that Rattle reads out of the source.
use mathlib.Core.Path.{◌≡◌, sym, ◌∙◌}
use borrow.Fn.Kinds.{Dens, res_t, ended_of}
use Rattle.laws.specs.Unique.{Unique}
use contract.Lifetimes.{Lfts}
use denote.Triple.Clauses.{AtExit}
use Rattle.log_lines.proofs.next_line.Reads as next-line
use Rattle.log_lines.proofs.next_line.Kinds as next-line-kinds
use Rattle.log_lines.proofs.carried.Reads as carried
use Rattle.log_lines.proofs.carried.Kinds as carried-kinds
use Rattle.log_lines.proofs.move_down.Reads as move_down
use Rattle.log_lines.proofs.move_down.Kinds as move-down-kinds

next-line-one : Unique 1 next-line-kinds.ps next-line-kinds.r next-line.Post
next-line-one κs a x y s t p q = p ∙ sym q

carried-one : Unique 0 carried-kinds.ps carried-kinds.r carried.Post
carried-one κs a x y s t p q = p.0 ∙ sym q.0

-- it answers nothing, and what it leaves of the buffer is determined
move-down-one : (κs : Lfts 1) (a : Dens κs move-down-kinds.ps) (x y : (res_t move-down-kinds.r κs).Denot)
    (s t : AtExit (ended_of 1 move-down-kinds.ps move-down-kinds.r) κs)
    → move_down.Post κs a x s → move_down.Post κs a y t → s.0.now ≡ t.0.now
move-down-one κs a x y s t p q = p ∙ sym q
