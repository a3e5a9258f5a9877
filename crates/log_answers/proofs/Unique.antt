-- Two results that one contract allows are equal. The contracts are those that Rattle reads out of the source.
-- Assumes nothing.
use mathlib.Core.Path.{sym, ◌∙◌}
use Rattle.laws.specs.Unique.{Unique}
use Rattle.log_answers.proofs.answered_by.Reads as answered-by
use Rattle.log_answers.proofs.answered_by.Kinds as answered-by-kinds
use Rattle.log_answers.proofs.tell.Reads as tell
use Rattle.log_answers.proofs.tell.Kinds as tell-kinds
use Rattle.log_answers.proofs.tell_entry.Reads as tell-entry
use Rattle.log_answers.proofs.tell_entry.Kinds as tell-entry-kinds

answered-by-one : Unique 0 answered-by-kinds.ps answered-by-kinds.r answered-by.Post
answered-by-one κs a x y s t p q = p.0 ∙ sym q.0

tell-one : Unique 1 tell-kinds.ps tell-kinds.r tell.Post
tell-one κs a x y s t p q = p ∙ sym q

tell-entry-one : Unique 0 tell-entry-kinds.ps tell-entry-kinds.r tell-entry.Post
tell-entry-one κs a x y s t p q = p ∙ sym q
