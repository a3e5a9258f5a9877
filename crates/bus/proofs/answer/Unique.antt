-- Two results that one contract allows are equal, for every public function. The contract is the one that Rattle reads out of the source
-- (`Reads.Post`).
-- Assumes nothing.
use mathlib.Core.Path.{sym, ◌∙◌}
use Rattle.laws.specs.Unique.{Unique}
use Rattle.bus.proofs.answer.frame.Reads as frame
use Rattle.bus.proofs.answer.frame.Kinds as frame-kinds
use Rattle.bus.proofs.answer.answer_to.Reads as answer-to
use Rattle.bus.proofs.answer.answer_to.Kinds as answer-to-kinds

frame-one : Unique 0 frame-kinds.ps frame-kinds.r frame.Post
frame-one κs a x y s t p q = p ∙ sym q

answer-to-one : Unique 0 answer-to-kinds.ps answer-to-kinds.r answer-to.Post
answer-to-one κs a x y s t p q = p.0 ∙ sym q.0
