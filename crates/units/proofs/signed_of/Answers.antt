-- `units::signed_of` meets its contract. Assumes nothing.
use Rattle.std.proofs.lemmas.Int.{of_z-to_z}
use Rattle.units.proofs.Signs.{signed-is}
use Rattle.units.proofs.signed_of.Goals as goal

pub returns : goal.returns
returns c = rw (c.cast_signed.ensures, of_z-to_z _ _ c.ranges.word.fits) (signed-is _ c.ranges.word.fits)
