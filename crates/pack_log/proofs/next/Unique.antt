-- Two results that one contract allows are equal. The contract is the one that Rattle reads out of the source.
-- Assumes nothing.
use mathlib.Core.Path.{sym, ◌∙◌}
use Rattle.laws.specs.Unique.{Unique}
use Rattle.pack_log.proofs.next.next_entry.Reads as next-entry
use Rattle.pack_log.proofs.next.next_entry.Kinds as next-entry-kinds

next-entry-one : Unique 1 next-entry-kinds.ps next-entry-kinds.r next-entry.Post
next-entry-one κs a x y s t p q = p ∙ sym q
