-- `page_settings::sample_level` meets its contract: a level in degrees, as tenths, fits 32 bits. Assumes nothing.
use native.Mathlib.Omega.{arith}
use mathlib.Core.Path.{◌≡◌, ap}
use lib.IntN.{ℤ}
use Rattle.units.specs.declared.PageLevel.{PageLevel}
use Rattle.units.specs.Levels.{level, page_level}
use Rattle.page_settings.proofs.Laws.{level-small, times-fits, plus-fits, plus-is}
use Rattle.page_settings.specs.Settings.{sample_level}
use Rattle.page_settings.proofs.sample_level.Goals as goal

number : (l : PageLevel) (z : ℤ) → l ≡ page_level z → l.0 ≡ z
number l z e = ap (λ (x : PageLevel). x.0) e

pub overflow_mul-result : goal.overflow_mul-result
overflow_mul-result c = times-fits c.level_of-z.result.0 (rw c.level_of-z.ensures (level-small _ _ c.ranges.x.fits))

pub overflow_add-result : goal.overflow_add-result
overflow_add-result c = plus-fits c.level_of-z.result.0 (rw c.level_of-z.ensures (level-small _ _ c.ranges.x.fits)) _ (omega arith)

pub returns-in-Above : goal.returns-in-Above
unfolding sample_level
returns-in-Above c = rw (c.in-Above.is, ← c.in_degrees.ensures, c.if-not-in_degrees.false, ← number _ _ c.level_of-z.ensures)
    (ap level (plus-is c.level_of-z.result.0 (rw c.level_of-z.ensures (level-small _ _ c.ranges.x.fits)) _ (omega arith)))

pub overflow_mul-result-in-Below : goal.overflow_mul-result-in-Below
overflow_mul-result-in-Below c = times-fits c.level_of-z.result.0 (rw c.level_of-z.ensures (level-small _ _ c.ranges.x.fits))

pub overflow_add-result-in-Below : goal.overflow_add-result-in-Below
overflow_add-result-in-Below c = plus-fits c.level_of-z.result.0 (rw c.level_of-z.ensures (level-small _ _ c.ranges.x.fits)) _ (omega arith)

pub returns-in-Below : goal.returns-in-Below
unfolding sample_level
returns-in-Below c = rw (c.in-Below.is, ← c.in_degrees.ensures, c.if-not-in_degrees.false, ← number _ _ c.level_of-z.ensures)
    (ap level (plus-is c.level_of-z.result.0 (rw c.level_of-z.ensures (level-small _ _ c.ranges.x.fits)) _ (omega arith)))
