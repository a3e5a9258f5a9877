-- The words of document 01's settings page: how one is read, the ranges of a value and of a level, the number that a level stands for.
-- Assumes nothing.
use Rattle.std.specs.Prelude.{Bool, true, ◌&&◌, List, ℕ, ◌+◌, ◌*◌, leb, get_or, ℤ, pos, negsuc}
use Rattle.std.specs.Int.Signed.{le_z}
use Rattle.units.specs.Signed.{signed_of}
use Rattle.protections.specs.declared.Quantity.{Quantity}
use Rattle.protections.specs.declared.Quantity.TheVariants.{HighestCell, LowestCell, Current, Temperature1, Temperature2}

-- "64 words, low byte first": word i of the bytes b. A byte that isn't there reads as 0.
unfoldable pub word_at : List ℕ → ℕ → ℕ
word_at b i = get_or b (2 * i) 0 + 256 * get_or b (2 * i + 1) 0

-- A value of low..high.
unfoldable pub within : ℕ → ℕ → ℕ → Bool
within low high x = leb low x && leb x high

-- -40..120 degrees: `negsuc 39` is -40.
unfoldable pub degrees_fit : ℤ → Bool
degrees_fit c = le_z (negsuc 39) c && le_z c (pos 120)

-- "Trip and release are 0..6000 for cells, any signed 16-bit value for current, -40..120 (signed) for temperature."
unfoldable pub level_fits : Quantity → ℕ → Bool
level_fits HighestCell x = within 0 6000 x
level_fits LowestCell x = within 0 6000 x
level_fits Current x = true
level_fits Temperature1 x = degrees_fit (signed_of x)
level_fits Temperature2 x = degrees_fit (signed_of x)

-- The number that a level stands for on the page, in mV, mA or degrees: signed for currents and temperatures.
unfoldable pub level_of : Quantity → ℕ → ℤ
level_of HighestCell x = pos x
level_of LowestCell x = pos x
level_of Current x = signed_of x
level_of Temperature1 x = signed_of x
level_of Temperature2 x = signed_of x
