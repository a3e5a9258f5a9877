-- Laws of the run rule, for any two tests of a sample that are never both true: that the counting and the history say the same.
-- They stand in proofs/ and not beside the definitions of specs/Runs.antt: an edit that makes one of those wrong is then refused by them.
-- Assumes nothing.
use Rattle.std.specs.Prelude.{◌≡◌, refl, Bool, true, false, List, [], ◌∷◌, ℕ, suc, ◌≤◌, ◌<◌, leb}
use Rattle.std.proofs.Common.{sym, ap, ◌∙◌, true≢false, arith, leb-false}
use Rattle.std.proofs.lemmas.Bool.{lt-leb, not-true}
use Rattle.laws.specs.Tests.{by-test, clash}
use Rattle.laws.specs.Latest.{run-goes-on, last_all, run, last_all-run}
use Rattle.guard.specs.declared.rule.Alarm.{Alarm}
use Rattle.guard.specs.Runs as runs
use Rattle.guard.specs.Runs.{RunWithin, alarm_run_of, next_alarm}

-- The definitions of specs/Runs.antt at two numbers and two tests, by their own names.
module _ {S : Type 0} (N M : ℕ) (trips qualifies : S → Bool) where
  abbrev rule_raised_after : List S → Bool
  rule_raised_after = runs.rule_raised_after N M trips qualifies

  abbrev alarm_after : List S → Alarm
  alarm_after = runs.alarm_after N M trips qualifies

  abbrev alarm_stepped : List S → Alarm
  alarm_stepped = runs.alarm_stepped N M trips qualifies

  abbrev alarm-none : (h : List S) → run trips h ≡ 0 → run qualifies h ≡ 0 → alarm_run_of (alarm_after h) ≡ 0
  alarm-none = runs.alarm-none N M trips qualifies

  module _ (n-least : 1 ≤ N) (n-most : N ≤ 255) (m-least : 1 ≤ M) (m-most : M ≤ 255) (never : (s : S) → trips s ≡ true → qualifies s ≡ false) where
    never' : (s : S) → qualifies s ≡ true → trips s ≡ false
    never' s q = by-test (trips s) (λ t. clash q (never s t)) (λ t. t)

    clear-within : (h : List S) → rule_raised_after h ≡ false → run trips h < N
    clear-within [] e = n-least
    clear-within (s ∷ h) e =
        by-test (rule_raised_after h)
        (λ u. by-test (qualifies s)
        (λ q. rw (never' s q) n-least)
        (λ q. absurd (true≢false (rw (u, last_all-run, q, lt-leb M 0 m-least) at e))))
        (λ u. leb-false N (run trips (s ∷ h)) (sym (last_all-run N trips (s ∷ h)) ∙ rw u at e))

    raised-within : (h : List S) → rule_raised_after h ≡ true → run qualifies h < M
    raised-within [] e = absurd (true≢false (sym e))
    raised-within (s ∷ h) e =
        by-test (rule_raised_after h)
        (λ u. leb-false M (run qualifies (s ∷ h)) (sym (last_all-run M qualifies (s ∷ h)) ∙ not-true (last_all M qualifies (s ∷ h)) (rw u at e)))
        (λ u. by-test (trips s)
        (λ t. rw (never s t) m-least)
        (λ t. absurd (true≢false (sym (rw (u, last_all-run, t, lt-leb N 0 n-least) at e)))))

    -- THE RUN RULE: one step on from what a history says is what the longer history says.
    pub alarm-step : (s : S) (h : List S) → next_alarm N M (trips s) (qualifies s) (alarm_after h) ≡ alarm_after (s ∷ h)
    alarm-step s h =
        by-test (rule_raised_after h)
        (λ e. let w = raised-within h e in rw (e, run-goes-on (qualifies s) (run qualifies h) (omega arith), last_all-run) (by-test (qualifies s)
        (λ q. rw q (by-test (leb M (suc (run qualifies h))) (λ u. rw (u, never' s q)) (λ u. rw u)))
        (λ q. rw (q, lt-leb M 0 m-least))))
        (λ e. let w = clear-within h e in rw (e, run-goes-on (trips s) (run trips h) (omega arith), last_all-run) (by-test (trips s)
        (λ t. rw t (by-test (leb N (suc (run trips h))) (λ u. rw (u, never s t)) (λ u. rw u)))
        (λ t. rw (t, lt-leb N 0 n-least))))

    -- After any history the stepped alarm is what the history says, its run included.
    pub alarm-is : (h : List S) → alarm_stepped h ≡ alarm_after h
    alarm-is [] = refl
    alarm-is (s ∷ h) = ap (next_alarm N M (trips s) (qualifies s)) (alarm-is h) ∙ alarm-step s h

    -- No run leaves its type, however long the history is: it stays below N while clear, below M while raised.
    pub alarm-within : (h : List S) → RunWithin N M (alarm_after h)
    alarm-within h = by-test (rule_raised_after h) (λ e. rw e (raised-within h e)) (λ e. rw e (clear-within h e))

    -- A sample that neither trips nor qualifies ends both runs, and neither raises nor releases.
    pub neither-ends : (s : S) (h : List S) → trips s ≡ false → qualifies s ≡ false
        → (rule_raised_after (s ∷ h) ≡ rule_raised_after h) × (alarm_run_of (alarm_after (s ∷ h)) ≡ 0)
    neither-ends s h t q = (stays, alarm-none (s ∷ h) (rw t) (rw q))
      where
        stays : rule_raised_after (s ∷ h) ≡ rule_raised_after h
        stays =
            by-test (rule_raised_after h)
            (λ u. rw (u, last_all-run, q, lt-leb M 0 m-least))
            (λ u. rw (u, last_all-run, t, lt-leb N 0 n-least))
