-- Two answers that a contract of `pack_state` allows are equal. Assumes nothing.
use mathlib.Core.Path.{sym, ◌∙◌}
use Rattle.laws.specs.Unique.{Unique}
use Rattle.pack_state.proofs.accept.Kinds as accept-kinds
use Rattle.pack_state.proofs.accept.Reads as accept
use Rattle.pack_state.proofs.want_at.Kinds as want-at-kinds
use Rattle.pack_state.proofs.want_at.Reads as want-at

accept-one : Unique 0 accept-kinds.ps accept-kinds.r accept.Post
accept-one κs a x y s t p q = p ∙ sym q

want-at-one : Unique 0 want-at-kinds.ps want-at-kinds.r want-at.Post
want-at-one κs a x y s t p q = p ∙ sym q
