-- The run rule of document 01, "The eight protections", once for any two tests of a sample that are never both true.
-- A history is the list of accepted samples since the load, the latest first.
-- Assumes nothing.
use Rattle.std.specs.Prelude.{◌≡◌, refl, Bool, true, false, not, cond, Option, None, Some, List, [], ◌∷◌, ℕ, ◌≤◌, ◌<◌, leb}
use Rattle.std.proofs.Common.{arith, le-leb}
use Rattle.std.proofs.lemmas.Bool.{lt-leb}
use Rattle.laws.specs.Tests.{by-test}
use Rattle.laws.specs.Latest.{next_run, last_all, run, last_all-run}
use Rattle.guard.specs.declared.rule.Alarm.{Alarm}
use Rattle.guard.specs.declared.rule.Alarm.TheVariants.{Clear, Raised}

abbrev pub is_raised : Alarm → Bool
is_raised (Clear run) = false
is_raised (Raised run) = true

abbrev pub alarm_run_of : Alarm → ℕ
alarm_run_of (Clear run) = run
alarm_run_of (Raised run) = run

-- While clear the run is below N, while raised below M.
abbrev pub RunWithin : ℕ → ℕ → Alarm → Type 0
RunWithin N M (Clear run) = run < N
RunWithin N M (Raised run) = run < M

pub run-most : (N M most : ℕ) (a : Alarm) → N ≤ most → M ≤ most → RunWithin N M a → alarm_run_of a < most
run-most N M most (Clear run) n m w = omega arith
run-most N M most (Raised run) n m w = omega arith

-- A run, one sample on; None where it has come to what is needed.
abbrev pub run_on : ℕ → Bool → ℕ → Option ℕ
run_on needed counts old = cond (leb needed (next_run counts old)) None (Some (next_run counts old))

-- One sample on, by counting: while clear a run of N tripping samples raises,
abbrev pub next_clear : ℕ → Bool → ℕ → Alarm
next_clear N trip run = cond (leb N (next_run trip run)) (Raised 0) (Clear (next_run trip run))

-- while raised a run of M releasing samples releases.
abbrev pub next_raised : ℕ → Bool → ℕ → Alarm
next_raised M qualify run = cond (leb M (next_run qualify run)) (Clear 0) (Raised (next_run qualify run))

abbrev pub next_alarm : ℕ → ℕ → Bool → Bool → Alarm → Alarm
next_alarm N M trip qualify (Clear run) = next_clear N trip run
next_alarm N M trip qualify (Raised run) = next_raised M qualify run

-- What the branches of the code come to: r is the run with this sample.
pub clear-reached : (N run r : ℕ) (trip : Bool) → r ≡ next_run trip run → N ≤ r → next_clear N trip run ≡ Raised 0
clear-reached N run r trip e h = rw (← e, le-leb N r h)

pub clear-short : (N run r : ℕ) (trip : Bool) → r ≡ next_run trip run → r < N → next_clear N trip run ≡ Clear r
clear-short N run r trip e h = rw (← e, lt-leb N r h)

pub raised-reached : (M run r : ℕ) (qualify : Bool) → r ≡ next_run qualify run → M ≤ r → next_raised M qualify run ≡ Clear 0
raised-reached M run r qualify e h = rw (← e, le-leb M r h)

pub raised-short : (M run r : ℕ) (qualify : Bool) → r ≡ next_run qualify run → r < M → next_raised M qualify run ≡ Raised r
raised-short M run r qualify e h = rw (← e, lt-leb M r h)

module _ {S : Type 0} (N M : ℕ) (trips qualifies : S → Bool) where
  -- "Clear: it is raised at a sample if the last N accepted samples, this one included, all trip. Raised: it is released
  -- if the last M accepted samples all meet the release condition. Only samples since the load count."
  abbrev pub rule_raised_after : List S → Bool
  rule_raised_after [] = false
  rule_raised_after (s ∷ h) = cond (rule_raised_after h) (not (last_all M qualifies (s ∷ h))) (last_all N trips (s ∷ h))

  -- "Each protection is either clear, with its run of tripping samples, or raised, with its run of releasing samples."
  abbrev pub alarm_after : List S → Alarm
  alarm_after h = cond (rule_raised_after h) (Raised (run qualifies h)) (Clear (run trips h))

  -- A history stepped sample by sample from the load.
  abbrev pub alarm_stepped : List S → Alarm
  alarm_stepped [] = Clear 0
  alarm_stepped (s ∷ h) = next_alarm N M (trips s) (qualifies s) (alarm_stepped h)

  pub alarm-raised : (h : List S) → is_raised (alarm_after h) ≡ rule_raised_after h
  alarm-raised h = by-test (rule_raised_after h) (λ e. rw e) (λ e. rw e)

  -- What no sample trips is never raised.
  pub never-raised : 1 ≤ N → ((s : S) → trips s ≡ false) → (h : List S) → rule_raised_after h ≡ false
  never-raised n-least none [] = refl
  never-raised n-least none (s ∷ h) = rw (never-raised n-least none h, last_all-run, none s, lt-leb N 0 n-least)

  -- No run is left where both have ended.
  pub alarm-none : (h : List S) → run trips h ≡ 0 → run qualifies h ≡ 0 → alarm_run_of (alarm_after h) ≡ 0
  alarm-none h t q = by-test (rule_raised_after h) (λ e. rw e q) (λ e. rw e t)
