-- Computed cases: document 01's starred run of samples, and cases that pin each direction.
-- Assumes nothing.
use Rattle.std.specs.Prelude.{◌≡◌, refl, Bool, true, false, List, [], ◌∷◌, reverse, ℕ, eqb, ℤ, pos}
use Rattle.laws.specs.Each.{each_to, each_from}
use Rattle.laws.specs.Latest.{next_run}
use Rattle.units.specs.Levels.{level}
use Rattle.protections.specs.declared.Limits.{Limits}
use Rattle.protections.specs.Table.{row_at, table}
use Rattle.sample.specs.declared.Sample.{Sample}
use Rattle.sample.specs.Cells.{best_of, extremes_of}
use Rattle.sample.specs.Measure.{measure}
use Rattle.sample.specs.Cases.{below_zero, sampled}
use Rattle.guard.specs.declared.rule.Alarm.{Alarm}
use Rattle.guard.specs.declared.rule.Alarm.TheVariants.{Clear, Raised}
use Rattle.guard.specs.declared.rule.Protection.{Protection}
use Rattle.guard.specs.Runs.{is_raised, alarm_run_of, alarm_after, alarm_stepped}
use Rattle.guard.specs.Steps.{raised, protection_after, step_one, step_at, step_all, step_some, clear}

-- ---- limits and samples, written short

abbrev pub limited : ℤ → ℤ → ℕ → ℕ → ℕ → Limits
limited trip release n m mask = record { trip = level trip; release = level release; n = n; m = m; mask = mask }

-- Two cells, the higher one of x mV.
abbrev pub high : ℕ → Sample
high x = sampled 2 (3000 ∷ x ∷ 0 ∷ 0 ∷ 0 ∷ 0 ∷ 0 ∷ 0 ∷ 0 ∷ 0 ∷ []) (pos 0) 2980 2980

-- A current of z mA.
abbrev pub flow : ℤ → Sample
flow z = sampled 2 (4000 ∷ 4000 ∷ 0 ∷ 0 ∷ 0 ∷ 0 ∷ 0 ∷ 0 ∷ 0 ∷ 0 ∷ []) z 2980 2980

-- ---- whether protection p is raised after each sample, in time order: from the history, and by the step

abbrev pub from_history : ℕ → Limits → List Sample → List Sample → List Bool
from_history p l past [] = []
from_history p l past (s ∷ coming) = raised (row_at p) l (s ∷ past) ∷ from_history p l (s ∷ past) coming

abbrev pub by_steps : ℕ → Protection → List Sample → List Bool
by_steps p g [] = []
by_steps p g (s ∷ coming) =
    is_raised (step_at (extremes_of s.cells s.count) s p g).alarm
    ∷ by_steps p (step_at (extremes_of s.cells s.count) s p g) coming

abbrev pub loaded : Limits → Protection
loaded l = record { limits = l; alarm = Clear 0 }

-- The alarm itself after all of them.
abbrev alarm_by_steps : ℕ → Protection → List Sample → Alarm
alarm_by_steps p g [] = g.alarm
alarm_by_steps p g (s ∷ coming) = alarm_by_steps p (step_at (extremes_of s.cells s.count) s p g) coming

-- ---- (*) trip 4250, release 4150, N 3, M 2: raised at the sixth only, then released at the fourth

abbrev pub starred_limits : Limits
starred_limits = limited (pos 4250) (pos 4150) 3 2 1

abbrev pub starred_samples : List Sample
starred_samples =
    high 4250 ∷ high 4250 ∷ high 4249 ∷ high 4250 ∷ high 4250 ∷ high 4250 ∷ high 4150 ∷ high 4151 ∷ high 4150 ∷ high 4150 ∷ []

abbrev pub starred_answer : List Bool
starred_answer = false ∷ false ∷ false ∷ false ∷ false ∷ true ∷ true ∷ true ∷ true ∷ false ∷ []

pub starred-history : from_history 0 starred_limits [] starred_samples ≡ starred_answer
unfolding raised row_at table measure extremes_of best_of
starred-history = refl

pub starred-steps : by_steps 0 (loaded starred_limits) starred_samples ≡ starred_answer
unfolding step_one step_at next_run row_at table extremes_of best_of
starred-steps = refl

-- The runs themselves: two tripping samples, and none once another came.
pub run-counts : alarm_by_steps 0 (loaded starred_limits) (high 4250 ∷ high 4250 ∷ []) ≡ Clear 2
unfolding step_one step_at next_run row_at table extremes_of best_of
run-counts = refl

pub run-ends : alarm_by_steps 0 (loaded starred_limits) (high 4250 ∷ high 4250 ∷ high 4249 ∷ []) ≡ Clear 0
unfolding step_one step_at next_run row_at table extremes_of best_of
run-ends = refl

-- A run of releasing samples does not go on over the release: the next run of tripping samples starts from none.
pub run-after-release : alarm_by_steps 0 (loaded starred_limits) starred_samples ≡ Clear 0
unfolding step_one step_at next_run row_at table extremes_of best_of
run-after-release = refl

-- The same from the history, with the runs: after two samples, six, seven, eight and all ten.
abbrev alarm_said : List Sample → Alarm
alarm_said h = (protection_after (row_at 0) starred_limits h).alarm

pub alarms-history
    : (alarm_said (high 4250 ∷ high 4250 ∷ [])
    ∷ alarm_said (high 4250 ∷ high 4250 ∷ high 4250 ∷ high 4249 ∷ high 4250 ∷ high 4250 ∷ [])
    ∷ alarm_said (high 4150 ∷ high 4250 ∷ high 4250 ∷ high 4250 ∷ high 4249 ∷ high 4250 ∷ high 4250 ∷ [])
    ∷ alarm_said (high 4151 ∷ high 4150 ∷ high 4250 ∷ high 4250 ∷ high 4250 ∷ high 4249 ∷ high 4250 ∷ high 4250 ∷ [])
    ∷ alarm_said (reverse starred_samples) ∷ [])
    ≡ (Clear 2 ∷ Raised 0 ∷ Raised 1 ∷ Raised 0 ∷ Clear 0 ∷ [])
unfolding protection_after row_at table measure extremes_of best_of
alarms-history = refl

-- ---- currents are signed, to both ends of 16 bits

-- Short current, at or below -32768, released at or above 32767.
abbrev lowest-level : Limits
lowest-level = limited (below_zero 32768) (pos 32767) 1 1 2

pub lowest-current
    : from_history 4 lowest-level [] (flow (below_zero 32767) ∷ flow (pos 32767) ∷ flow (below_zero 32768) ∷ flow (pos 32766) ∷ flow (pos 32767) ∷ [])
    ≡ (false ∷ false ∷ true ∷ true ∷ false ∷ [])
unfolding raised row_at table measure
lowest-current = refl

-- Over charge current, at or above 32767, released at or below -32768.
abbrev highest-level : Limits
highest-level = limited (pos 32767) (below_zero 32768) 1 1 1

pub highest-current
    : from_history 2 highest-level [] (flow (pos 32766) ∷ flow (below_zero 32768) ∷ flow (pos 32767) ∷ flow (below_zero 32767) ∷ flow (below_zero 32768) ∷ [])
    ≡ (false ∷ false ∷ true ∷ true ∷ false ∷ [])
unfolding raised row_at table measure
highest-current = refl

-- Over discharge current, at or below -5000: -4999, 5000 and 0 do not trip, -5000 does, and -1 and 100 release.
abbrev discharge : Limits
discharge = limited (below_zero 5000) (below_zero 100) 1 1 2

pub below-zero
    : from_history 3 discharge []
    (flow (below_zero 4999) ∷ flow (pos 5000) ∷ flow (pos 0) ∷ flow (below_zero 5000) ∷ flow (below_zero 101) ∷ flow (below_zero 1) ∷ flow (below_zero 5001) ∷ flow (pos 100) ∷ [])
    ≡ (false ∷ false ∷ false ∷ true ∷ true ∷ false ∷ true ∷ false ∷ [])
unfolding raised row_at table measure
below-zero = refl

-- ---- the run rule by itself, N 2 and M 3: 1 trips, 2 qualifies, 0 does neither

-- What holds after each sample, the latest first, and at the load last.
abbrev at_each : (List ℕ → Alarm) → List ℕ → List Alarm
at_each f [] = f [] ∷ []
at_each f (x ∷ h) = f (x ∷ h) ∷ at_each f h

abbrev trodden : List ℕ
trodden = 1 ∷ 2 ∷ 2 ∷ 2 ∷ 0 ∷ 2 ∷ 1 ∷ 1 ∷ 0 ∷ 1 ∷ []

-- Raised at the second tripping sample in a row; a sample of neither kind ends the run; released at the third in a row that qualifies.
abbrev alarms : List Alarm
alarms =
    Clear 1 ∷ Clear 0 ∷ Raised 2 ∷ Raised 1 ∷ Raised 0 ∷ Raised 1 ∷ Raised 0 ∷ Clear 1 ∷ Clear 0 ∷ Clear 1 ∷ Clear 0 ∷ []

pub rule-history : at_each (alarm_after 2 3 (eqb 1) (eqb 2)) trodden ≡ alarms
rule-history = refl

pub rule-steps : at_each (alarm_stepped 2 3 (eqb 1) (eqb 2)) trodden ≡ alarms
unfolding next_run
rule-steps = refl

pub runs-read : alarm_run_of (Clear 2) ∷ alarm_run_of (Raised 3) ∷ [] ≡ 2 ∷ 3 ∷ []
runs-read = refl

-- At the load: clear, with no run.
pub at-load : clear (limited (pos 4250) (pos 4150) 3 2 1) ≡ record { limits = limited (pos 4250) (pos 4150) 3 2 1; alarm = Clear 0 }
unfolding clear
at-load = refl

-- ---- some of the protections stepped

abbrev pub standing : List Limits → List Alarm → List Protection
standing [] rest = []
standing (l ∷ ls) [] = []
standing (l ∷ ls) (a ∷ rest) = record { limits = l; alarm = a } ∷ standing ls rest

abbrev pub mixed_limits : List Limits
mixed_limits =
    limited (pos 4250) (pos 4150) 3 2 1
    ∷ limited (pos 3000) (pos 3200) 3 2 2
    ∷ limited (pos 5000) (pos 100) 3 2 1
    ∷ limited (below_zero 5000) (below_zero 100) 3 2 2
    ∷ limited (below_zero 6000) (below_zero 100) 1 1 2
    ∷ limited (pos 3200) (pos 3100) 3 2 1
    ∷ limited (pos 3300) (pos 3200) 3 2 2
    ∷ limited (pos 3300) (pos 3200) 1 1 3
    ∷ limited (pos 2730) (pos 2780) 3 2 1
    ∷ limited (pos 2630) (pos 2680) 3 3 2
    ∷ []

abbrev mixed_sample : Sample
mixed_sample = sampled 2 (3000 ∷ 4250 ∷ 0 ∷ 0 ∷ 0 ∷ 0 ∷ 0 ∷ 0 ∷ 0 ∷ 0 ∷ []) (below_zero 6000) 3200 3300

abbrev mixed_before : List Protection
mixed_before =
    standing mixed_limits (Clear 1 ∷ Clear 2 ∷ Raised 1 ∷ Clear 1 ∷ Clear 0 ∷ Clear 1 ∷ Clear 1 ∷ Clear 0 ∷ Raised 1 ∷ Raised 1 ∷ [])

-- Protections 2, 3 and 4 one sample on, the others as they were: the sample would have moved each of them.
pub some-stepped :
    step_some (extremes_of mixed_sample.cells mixed_sample.count) mixed_sample 2 5 mixed_before
    ∷ step_all (extremes_of mixed_sample.cells mixed_sample.count) mixed_sample mixed_before
    ∷ []
    ≡ standing mixed_limits (Clear 1 ∷ Clear 2 ∷ Clear 0 ∷ Clear 2 ∷ Raised 0 ∷ Clear 1 ∷ Clear 1 ∷ Clear 0 ∷ Raised 1 ∷ Raised 1 ∷ [])
    ∷ standing mixed_limits (Clear 2 ∷ Raised 0 ∷ Clear 0 ∷ Clear 2 ∷ Raised 0 ∷ Clear 2 ∷ Clear 0 ∷ Raised 0 ∷ Clear 0 ∷ Raised 2 ∷ [])
    ∷ []
unfolding step_all step_one step_at each_to each_from next_run row_at table extremes_of best_of
some-stepped = refl
