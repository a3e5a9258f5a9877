-- Laws of one protection and of all, of good limits: that the step of the code leads from what a history says to what the longer history says.
-- They stand in proofs/ and not in specs/StepLaws.antt: an edit that makes a definition wrong is then refused by them.
-- Assumes nothing.
use Rattle.std.specs.Prelude.{◌≡◌, refl, true, false, List, [], ◌∷◌, ◌≤◌, ◌<◌}
use Rattle.std.proofs.Math.Path.{ap}
use Rattle.std.proofs.Common.{◌∙◌, arith}
use Rattle.protections.specs.declared.Limits.{Limits}
use Rattle.protections.specs.declared.Row.{Row}
use Rattle.protections.specs.Limits.{limits_at, GoodLimits, AllGood}
use Rattle.protections.specs.Table.{row_at, protections}
use Rattle.sample.specs.declared.Sample.{Sample}
use Rattle.guard.specs.declared.rule.Alarm.{Alarm}
use Rattle.sample.specs.Cells.{extremes_of}
use Rattle.sample.specs.Measure.{measure, trips, qualifies, between, between-neither}
use Rattle.laws.specs.Numbered.{each-list_of}
use Rattle.guard.specs.Runs as runs
use Rattle.guard.specs.Steps.{no_protection, raised, protection_after, protections_after, step_one, step_at, step_all, step_all_by, protections_stepped, Within}
use Rattle.guard.specs.StepLaws as laws
use Rattle.guard.specs.StepLaws.{protections-length, protections-at}
use Rattle.guard.proofs.RunLaws as run-laws

-- One whose trip level no sample reaches is never raised.
pub raised-never : (row : Row) (l : Limits) → 1 ≤ l.n → ((s : Sample) → trips row l s ≡ false) → (h : List Sample) → raised row l h ≡ false
unfolding raised
raised-never row l = runs.never-raised l.n l.m (trips row l) (qualifies row l)

-- ---- one protection of good limits

module _ (row : Row) (l : Limits) (g : GoodLimits row.direction l) where
  never-at-once : (s : Sample) → trips row l s ≡ true → qualifies row l s ≡ false
  never-at-once = laws.never-at-once row l g

  n-byte : l.n ≤ 255
  n-byte = let h = g.n-most in omega arith

  m-byte : l.m ≤ 255
  m-byte = let h = g.m-most in omega arith

  -- One step on from what a history says is what the longer history says.
  pub protection-step : (s : Sample) (h : List Sample)
      → step_one row.direction (measure row.quantity s) (protection_after row l h) ≡ protection_after row l (s ∷ h)
  unfolding step_one protection_after
  protection-step s h =
      ap (λ (a : Alarm). record { limits = l; alarm = a })
      (run-laws.alarm-step l.n l.m (trips row l) (qualifies row l) g.n-least n-byte g.m-least m-byte never-at-once s h)

  -- Its run stays below N or M, however long the history is.
  pub protection-within : (h : List Sample) → Within (protection_after row l h)
  unfolding protection_after
  protection-within h = run-laws.alarm-within l.n l.m (trips row l) (qualifies row l) g.n-least n-byte g.m-least m-byte never-at-once h

  -- So it is below 240, and fits its byte.
  pub protection-run : (h : List Sample) → runs.alarm_run_of (protection_after row l h).alarm < 240
  unfolding protection_after
  protection-run h =
      runs.run-most l.n l.m 240 (runs.alarm_after l.n l.m (trips row l) (qualifies row l) h) g.n-most g.m-most (protection-within h)

  -- A sample between the two levels ends both runs: whatever the history was, it stays clear or raised and its run is none.
  pub between-ends : (s : Sample) (h : List Sample) → between row.direction l.trip.0 l.release.0 (measure row.quantity s) ≡ true
      → (raised row l (s ∷ h) ≡ raised row l h) × (runs.alarm_run_of (protection_after row l (s ∷ h)).alarm ≡ 0)
  unfolding raised protection_after
  between-ends s h b =
      let e = between-neither row.direction l.trip.0 l.release.0 (measure row.quantity s) b in
      run-laws.neither-ends l.n l.m (trips row l) (qualifies row l) g.n-least n-byte g.m-least m-byte never-at-once s h e.0 e.1

-- ---- all protections

module _ (ls : List Limits) (g : AllGood ls) where
  -- The whole array, one sample on from what a history says, is what the longer history says.
  pub protections-step : (s : Sample) (h : List Sample) → step_all_by s (protections_after ls h) ≡ protections_after ls (s ∷ h)
  unfolding step_all step_at protections_after measure
  protections-step s h =
      each-list_of no_protection (step_at (extremes_of s.cells s.count) s) (λ p. protection_after (row_at p) (limits_at ls p) (s ∷ h)) protections
      (protections_after ls h) (protections-length ls h) (λ p q.
      ap (step_at (extremes_of s.cells s.count) s p) (protections-at ls h p q)
      ∙ protection-step (row_at p) (limits_at ls p) (g p q) s h)

  -- The load and then every sample of a history, stepped: the array is what the history says, each alarm with its run.
  pub protections-is : (h : List Sample) → protections_stepped ls h ≡ protections_after ls h
  protections-is [] = refl
  protections-is (s ∷ h) = ap (step_all_by s) (protections-is h) ∙ protections-step s h
