-- Two answers that a contract of `laws` allows are equal. Assumes nothing.
use mathlib.Core.Path.{sym, ◌∙◌}
use Rattle.laws.specs.Unique.{Unique}
use Rattle.laws.proofs.has_bit.Kinds as has-bit-kinds
use Rattle.laws.proofs.has_bit.Reads as has-bit
use Rattle.laws.proofs.with_bit_if.Kinds as with-bit-if-kinds
use Rattle.laws.proofs.with_bit_if.Reads as with-bit-if
use Rattle.laws.proofs.next_run.Kinds as next-run-kinds
use Rattle.laws.proofs.next_run.Reads as next-run

has-bit-one : Unique 0 has-bit-kinds.ps has-bit-kinds.r has-bit.Post
has-bit-one κs a x y s t p q = p ∙ sym q

with-bit-if-one : Unique 0 with-bit-if-kinds.ps with-bit-if-kinds.r with-bit-if.Post
with-bit-if-one κs a x y s t p q = p ∙ sym q

next-run-one : Unique 0 next-run-kinds.ps next-run-kinds.r next-run.Post
next-run-one κs a x y s t p q = p ∙ sym q
