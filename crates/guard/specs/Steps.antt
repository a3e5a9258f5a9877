-- One protection and all of them, from the history and by the step.
-- Assumes nothing.
use Rattle.std.specs.Prelude.{Bool, List, [], ◌∷◌, ℕ, ◌-◌, ℤ}
use Rattle.laws.specs.Each.{each_to, each_from}
use Rattle.protections.specs.declared.Direction.{Direction}
use Rattle.protections.specs.declared.Limits.{Limits}
use Rattle.protections.specs.declared.Row.{Row}
use Rattle.protections.specs.Direction.{reaches, back_of}
use Rattle.protections.specs.Limits.{no_limits, limits_at}
use Rattle.protections.specs.Table.{row_at, protections}
use Rattle.sample.specs.declared.Sample.{Sample}
use Rattle.sample.specs.declared.Extremes.{Extremes}
use Rattle.guard.specs.declared.rule.Protection.{Protection}
use Rattle.guard.specs.declared.rule.Alarm.TheVariants.{Clear}
use Rattle.sample.specs.Cells.{extremes_of}
use Rattle.sample.specs.Measure.{measured, trips, qualifies}
use Rattle.laws.specs.Numbered.{list_of}
use Rattle.guard.specs.Runs as runs
use Rattle.guard.specs.Runs.{next_alarm, RunWithin}

abbrev pub no_protection : Protection
no_protection = record { limits = no_limits; alarm = Clear 0 }

-- ---- from the history

-- Whether the protection of this row and these limits is raised after a history.
unfoldable pub raised : Row → Limits → List Sample → Bool
raised row l = runs.rule_raised_after l.n l.m (trips row l) (qualifies row l)

-- The protection after a history: its limits, and its alarm with its run.
unfoldable pub protection_after : Row → Limits → List Sample → Protection
protection_after row l h = record { limits = l; alarm = runs.alarm_after l.n l.m (trips row l) (qualifies row l) h }

-- Every protection after a history, as the page's limits say.
unfoldable pub protections_after : List Limits → List Sample → List Protection
protections_after ls h = list_of (λ p. protection_after (row_at p) (limits_at ls p) h) protections

-- ---- by the step

-- One protection, one sample on.
unfoldable pub step_one : Direction → ℤ → Protection → Protection
step_one d value p =
    record {
      limits = p.limits;
      alarm =
          next_alarm p.limits.n p.limits.m (reaches d p.limits.trip.0 value) (reaches (back_of d) p.limits.release.0 value)
          p.alarm;
    }

-- Protection p by its row of the table, if e are the sample's highest and lowest cell.
unfoldable pub step_at : Extremes → Sample → ℕ → Protection → Protection
step_at e s p = step_one (row_at p).direction (measured e (row_at p).quantity s)

-- Every protection, one sample on, if e are the sample's highest and lowest cell.
unfoldable pub step_all : Extremes → Sample → List Protection → List Protection
step_all e s = each_to no_protection (step_at e s) protections

-- Protections `from` up to `to`, one sample on, the others as they were.
abbrev pub step_some : Extremes → Sample → ℕ → ℕ → List Protection → List Protection
step_some e s from to = each_from no_protection (step_at e s) from (to - from)

-- Every protection, one sample on.
abbrev pub step_all_by : Sample → List Protection → List Protection
step_all_by s = step_all (extremes_of s.cells s.count) s

-- The array stepped sample by sample from the load.
abbrev pub protections_stepped : List Limits → List Sample → List Protection
protections_stepped ls [] = protections_after ls []
protections_stepped ls (s ∷ h) = step_all_by s (protections_stepped ls h)

-- A protection at the load: clear, with no run.
unfoldable pub clear : Limits → Protection
clear l = record { limits = l; alarm = Clear 0 }

-- Protection p at the load, whatever stood in its place.
unfoldable pub clear_at : List Limits → ℕ → Protection → Protection
clear_at ls p old = clear (limits_at ls p)

-- The run is below the protection's N while it is clear, below its M while it is raised.
abbrev pub Within : Protection → Type 0
Within p = RunWithin p.limits.n p.limits.m p.alarm
