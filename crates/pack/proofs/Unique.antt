-- Two answers that a contract of `pack` allows are equal. Assumes nothing.
use mathlib.Core.Path.{sym, ◌∙◌}
use Rattle.laws.specs.Unique.{Unique}
use Rattle.pack.proofs.load.Kinds as load-kinds
use Rattle.pack.proofs.load.Reads as load
use Rattle.pack.proofs.offer.Kinds as offer-kinds
use Rattle.pack.proofs.offer.Reads as offer
use Rattle.pack.proofs.command.Kinds as command-kinds
use Rattle.pack.proofs.command.Reads as command

load-one : Unique 1 load-kinds.ps load-kinds.r load.Post
load-one κs a x y s t p q = p.0 ∙ sym q.0

offer-one : Unique 0 offer-kinds.ps offer-kinds.r offer.Post
offer-one κs a x y s t p q = p.0 ∙ sym q.0

command-one : Unique 0 command-kinds.ps command-kinds.r command.Post
command-one κs a x y s t p q = p.0 ∙ sym q.0
