-- Laws of one protection and of all: when the history raises and releases, what the loop needs, and what stands where.
-- Assumes nothing.
use Rattle.std.specs.Prelude.{◌≡◌, refl, true, false, not, List, [], ◌∷◌, ℕ, ◌+◌, ◌-◌, ◌≤◌, ◌<◌, length, get_or, set}
use Rattle.std.proofs.Math.Path.{ap}
use Rattle.std.proofs.Common.{sym, ◌∙◌, arith, ext_get_or}
use Rattle.laws.specs.Latest.{last_all}
use Rattle.laws.specs.Each.{each_to, each-next, each-join}
use Rattle.protections.specs.declared.Limits.{Limits}
use Rattle.protections.specs.declared.Row.{Row}
use Rattle.protections.specs.Direction.{never-both}
use Rattle.protections.specs.Limits.{limits_at, GoodLimits}
use Rattle.protections.specs.Table.{row_at, protections}
use Rattle.sample.specs.declared.Sample.{Sample}
use Rattle.sample.specs.declared.Extremes.{Extremes}
use Rattle.guard.specs.declared.rule.Protection.{Protection}
use Rattle.sample.specs.Measure.{measure, trips, qualifies}
use Rattle.laws.specs.Numbered.{list_of-length, list_of-at, each-list_of}
use Rattle.guard.specs.Runs as runs
use Rattle.guard.specs.Steps.{no_protection, raised, protection_after, protections_after, step_at, step_all, step_some, clear, clear_at}

-- ---- one protection, sample by sample

-- A clear protection is raised at a sample exactly if its last N all trip, this one included.
pub raised-when : (row : Row) (l : Limits) (s : Sample) (h : List Sample) → raised row l h ≡ false
    → raised row l (s ∷ h) ≡ last_all l.n (trips row l) (s ∷ h)
unfolding raised
raised-when row l s h e = rw e

-- A raised one is released at a sample exactly if its last M all qualify.
pub released-when : (row : Row) (l : Limits) (s : Sample) (h : List Sample) → raised row l h ≡ true
    → raised row l (s ∷ h) ≡ not (last_all l.m (qualifies row l) (s ∷ h))
unfolding raised
released-when row l s h e = rw e

-- ---- what the loop over the protections needs

-- One more protection at the load.
pub clear-next : (ls : List Limits) (l out : List Protection) (i : ℕ) (r : Protection) → out ≡ each_to no_protection (clear_at ls) i l
    → r ≡ clear (limits_at ls i) → set out i r ≡ each_to no_protection (clear_at ls) (i + 1) l
unfolding clear_at
clear-next ls l out i r q e = each-next no_protection (clear_at ls) i l out r q e

-- Some and then the others are all.
pub step-parts : (e : Extremes) (s : Sample) (k : ℕ) → k ≤ protections → (ps : List Protection)
    → step_some e s k protections (step_some e s 0 k ps) ≡ step_all e s ps
unfolding step_all each_to
step-parts e s k h ps =
    let none : 0 + (k - 0) ≡ k = omega arith in
    let rest : k + (protections - k) ≡ protections = omega arith in
    let first : step_some e s 0 k ps ≡ each_to no_protection (step_at e s) k ps =
    each-join no_protection (step_at e s) 0 (k - 0) ps ∙ ap (λ (i : ℕ). each_to no_protection (step_at e s) i ps) none in
    rw first
    (each-join no_protection (step_at e s) k (protections - k) ps ∙ ap (λ (i : ℕ). each_to no_protection (step_at e s) i ps) rest)

-- ---- one protection of good limits

module _ (row : Row) (l : Limits) (g : GoodLimits row.direction l) where
  -- It never trips and qualifies at one sample.
  pub never-at-once : (s : Sample) → trips row l s ≡ true → qualifies row l s ≡ false
  never-at-once s = never-both row.direction l.trip.0 l.release.0 (measure row.quantity s) g.ordered

pub protection-raised : (row : Row) (l : Limits) (h : List Sample) → runs.is_raised (protection_after row l h).alarm ≡ raised row l h
unfolding protection_after raised
protection-raised row l h = runs.alarm-raised l.n l.m (trips row l) (qualifies row l) h

pub protection-limits : (row : Row) (l : Limits) (h : List Sample) → (protection_after row l h).limits ≡ l
unfolding protection_after
protection-limits row l h = refl

-- ---- all protections

module _ (ls : List Limits) where
  pub protections-length : (h : List Sample) → length (protections_after ls h) ≡ protections
  unfolding protections_after
  protections-length h = list_of-length (λ p. protection_after (row_at p) (limits_at ls p) h) protections

  -- Entry p is protection p after the history.
  pub protections-at : (h : List Sample) (p : ℕ) → p < protections
      → get_or (protections_after ls h) p no_protection ≡ protection_after (row_at p) (limits_at ls p) h
  unfolding protections_after
  protections-at h p q = list_of-at (λ p. protection_after (row_at p) (limits_at ls p) h) protections p no_protection q

  -- At the load, with no sample, every protection is clear with no run.
  pub fresh-is : (l : List Protection) → length l ≡ protections → each_to no_protection (clear_at ls) protections l ≡ protections_after ls []
  unfolding protections_after protection_after clear_at clear
  fresh-is l e =
      each-list_of no_protection (clear_at ls) (λ p. protection_after (row_at p) (limits_at ls p) []) protections l e (λ p q. refl)

  -- An array of clear protections, each with its limits, is the one at the load.
  pub fresh-each : (out : List Protection) → length out ≡ protections
      → ((p : ℕ) → p < protections → get_or out p no_protection ≡ clear (limits_at ls p)) → out ≡ protections_after ls []
  unfolding protection_after clear
  fresh-each out e same =
      ext_get_or no_protection out (protections_after ls []) (e ∙ sym (protections-length [])) (λ p h.
      let q : p < protections = rw e at h in
      same p q ∙ sym (protections-at [] p q))
