-- Two results that one contract allows are equal. The contracts are those that Rattle reads out of the source.
-- Assumes nothing.
use mathlib.Core.Path.{sym, ◌∙◌}
use Rattle.laws.specs.Unique.{Unique}
use Rattle.log_entries.proofs.read_entry.Reads as read-entry
use Rattle.log_entries.proofs.read_entry.Kinds as read-entry-kinds
use Rattle.log_entries.proofs.read_ahead.Reads as read-ahead
use Rattle.log_entries.proofs.read_ahead.Kinds as read-ahead-kinds
use Rattle.log_entries.proofs.Entry.kind.Reads as kind
use Rattle.log_entries.proofs.Entry.kind.Kinds as kind-kinds

read-entry-one : Unique 1 read-entry-kinds.ps read-entry-kinds.r read-entry.Post
read-entry-one κs a x y s t p q = p ∙ sym q

read-ahead-one : Unique 1 read-ahead-kinds.ps read-ahead-kinds.r read-ahead.Post
read-ahead-one κs a x y s t p q = p ∙ sym q

kind-one : Unique 0 kind-kinds.ps kind-kinds.r kind.Post
kind-one κs a x y s t p q = p ∙ sym q
