-- `units::word_of` meets its contract. Assumes nothing.
use Rattle.std.proofs.Common.{w16}
use Rattle.std.proofs.lemmas.Int.{to_z-of_z}
use Rattle.units.proofs.Signs.{word-is}
use Rattle.units.proofs.word_of.Goals as goal

pub returns : goal.returns
returns c = rw (c.cast_unsigned.ensures, to_z-of_z w16 c.args.number c.ranges.number) (word-is c.args.number c.ranges.number.sfits)
