-- A number as a level, in the unit of the samples or of the page.
-- Assumes nothing.
use Rattle.std.specs.Prelude.{ℤ}
use Rattle.units.specs.declared.Level.{Level}
use Rattle.units.specs.declared.PageLevel.{PageLevel}

abbrev pub level : ℤ → Level
level z = record { 0 = z }

abbrev pub page_level : ℤ → PageLevel
page_level z = record { 0 = z }
