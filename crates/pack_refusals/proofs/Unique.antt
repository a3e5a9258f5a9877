-- Two answers that a contract of `pack_refusals` allows are equal. Assumes nothing.
use mathlib.Core.Path.{sym, ◌∙◌}
use Rattle.laws.specs.Unique.{Unique}
use Rattle.pack_refusals.proofs.sample_verdict.Kinds as sample-verdict-kinds
use Rattle.pack_refusals.proofs.sample_verdict.Reads as sample-verdict
use Rattle.pack_refusals.proofs.command_verdict.Kinds as command-verdict-kinds
use Rattle.pack_refusals.proofs.command_verdict.Reads as command-verdict
use Rattle.pack_refusals.proofs.trim.Kinds as trim-kinds
use Rattle.pack_refusals.proofs.trim.Reads as trim

sample-verdict-one : Unique 0 sample-verdict-kinds.ps sample-verdict-kinds.r sample-verdict.Post
sample-verdict-one κs a x y s t p q = p.0 ∙ sym q.0

command-verdict-one : Unique 0 command-verdict-kinds.ps command-verdict-kinds.r command-verdict.Post
command-verdict-one κs a x y s t p q = p.0 ∙ sym q.0

trim-one : Unique 0 trim-kinds.ps trim-kinds.r trim.Post
trim-one κs a x y s t p q = p ∙ sym q
