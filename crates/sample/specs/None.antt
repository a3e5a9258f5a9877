-- The sample that stands where there is none.
-- Assumes nothing.
use Rattle.std.specs.Prelude.{pos, replicate}
use Rattle.sample.specs.declared.Sample.{Sample}
use Rattle.sample.specs.Cells.{no_volts}

-- No cell, and 0 throughout.
abbrev pub no_sample : Sample
no_sample =
    record { count = 0; cells = replicate 10 no_volts; current = pos 0; t1 = record { 0 = 0 }; t2 = record { 0 = 0 } }
