-- `pack_numbers::numbers_of` meets its contract. Assumes nothing.
use Rattle.pack_numbers.specs.Numbers.{numbers_of}
use Rattle.pack_numbers.proofs.numbers_of.Goals as goal

pub returns : goal.returns
unfolding numbers_of
returns c = rw (c.from.ensures, c.guards_of.ensures)
