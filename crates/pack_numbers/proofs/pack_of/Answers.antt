-- `pack_numbers::pack_of` meets its contract. Assumes nothing.
use Rattle.pack_numbers.specs.Numbers.{pack_of}
use Rattle.pack_numbers.proofs.pack_of.Goals as goal

pub returns : goal.returns
unfolding pack_of
returns c = (rw (c.watch_of.ensures, c.protections_of-protections.ensures), c.watch_of.ensures)
