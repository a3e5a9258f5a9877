-- `pack_why::lines::cells_of` meets its contract. Assumes nothing.
use Rattle.std.proofs.Common.{refl}
use Rattle.pack_why.specs.Steps.{kept-ten}
use Rattle.pack_why.proofs.lines.cells_of.Goals as goal

pub returns : goal.returns
returns c = rw (← c.k.view_is) (refl, kept-ten _ c.k.invariant)
