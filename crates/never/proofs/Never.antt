-- WHAT NEVER HAPPENS WITH AN ACCEPTED PAGE. Request 08: "Our reviewer asks about code for a sample that trips and releases one protection
-- at once, and for a lowest cell that wants bleeding. Show from the accepted page that neither happens."
-- Samples, wishes and balances are those of the demands: since a load of any accepted page, over any events, the latest first.
-- Assumes nothing.
use Rattle.std.specs.Prelude.{◌≡◌, refl, Bool, true, false, not, ◌&&◌, List, [], ◌∷◌, ◌↔◌, ℕ, zero, suc, ◌+◌, ◌-◌, ◌≤◌, ◌<◌, leb, ltb, length, get_or}
use Rattle.std.proofs.Common.{sym, ap, ◌∙◌, not-suc-le-zero, arith, le-ltb, ltb-false}
use Rattle.laws.specs.Tests.{by-test, clash, and-left}
use Rattle.laws.specs.Bits.{has_bit}
use Rattle.laws.specs.Latest.{last_all, among}
use Rattle.sample.specs.declared.Found.{Found}
use Rattle.units.specs.Cells.{ten_at_most, ten-all}
use Rattle.protections.specs.declared.Limits.{Limits}
use Rattle.protections.specs.Limits.{limits_at, GoodLimits}
use Rattle.protections.specs.Table.{row_at, protections}
use Rattle.refusals.specs.Verdicts.{Accepted}
use Rattle.page_judge.specs.Page.{judged}
use Rattle.page_settings.specs.declared.Settings.{Settings}
use Rattle.sample.specs.declared.Sample.{Sample}
use Rattle.sample.specs.None.{no_sample}
use Rattle.sample.specs.Cells.{no_volts, lowest-among, lowest-least, extremes_of}
use Rattle.sample.specs.Measure.{trips}
use Rattle.guard.specs.Steps.{raised}
use Rattle.guard.specs.StepLaws.{raised-when, released-when, never-at-once}
use Rattle.bleed_wants.specs.Wants.{wants}
use Rattle.bleed_wants.specs.Word.{holds_cell}
use Rattle.bleed_wants.specs.Steps.{volts_of, wishes}
use Rattle.bleed.specs.Walk.Walk.{has}
use Rattle.bleed.proofs.Walk.WalkLaws.{only-wanting}
use Rattle.bleed.specs.Walk.History.{resting, start_cell}
use Rattle.pack_refusals.specs.Samples.{trimmed}
use Rattle.pack_state.specs.State.{wish_at, wishes_after, bleds_after}
use Rattle.pack_state.specs.Steps.{limits-good}
use Rattle.pack.specs.Events.{Event, offer}
use Rattle.pack.specs.Answers.{offered}
use Rattle.pack.specs.Kept.{page_of}
use Rattle.pack.specs.After.{after}
use Rattle.demands.specs.BledWords.{words-at}
use Rattle.demands.proofs.Demands.{page-good}
use Rattle.demands.specs.Shown.{shown, shown_words, samples, wanted, nobody, shown-words, samples-with, raised-bit}
use Rattle.never.specs.Never.{trips_it, releases_it, both_at_once, IsLowest, lowest_volts}

-- ==== "A SAMPLE THAT TRIPS AND RELEASES ONE PROTECTION AT ONCE"

-- No sample at all does both, of any protection that the state holds.
pub never-trips-and-releases : (bytes : List ℕ) → judged bytes ≡ Accepted → (p : ℕ) → p < protections → (s : Sample)
    → both_at_once bytes p s ≡ false
never-trips-and-releases bytes taken p inside s =
    let l = limits_at (page_of bytes).limits p in
    by-test (trips (row_at p) l s)
    (λ t. rw (t, never-at-once (row_at p) l (limits-good (page_of bytes) (page-good bytes taken) p inside) s t))
    (λ t. rw t)

none-among : {A : Type 0} (test : A → Bool) → ((x : A) → test x ≡ false) → (k : ℕ) (l : List A) → among k test l ≡ 0
none-among test never zero l = refl
none-among test never (suc k) [] = refl
none-among test never (suc k) (x ∷ l) = rw (never x) (none-among test never k l)

-- So at none of the samples since the load, whatever the events were.
pub history-never-at-once : (bytes : List ℕ) → judged bytes ≡ Accepted → (es : List Event) (p : ℕ) → p < protections
    → among (length (samples bytes es)) (both_at_once bytes p) (samples bytes es) ≡ 0
history-never-at-once bytes taken es p inside =
    none-among (both_at_once bytes p) (never-trips-and-releases bytes taken p inside) (length (samples bytes es)) (samples bytes es)

-- ---- what the calls show of it: a tripping sample releases nothing, and a releasing one raises nothing

last-not : {A : Type 0} (test : A → Bool) (k : ℕ) (x : A) (l : List A) → 1 ≤ k → test x ≡ false → last_all k test (x ∷ l) ≡ false
last-not test zero x l some e = absurd (not-suc-le-zero some)
last-not test (suc k) x l some e = rw e

module _ (bytes : List ℕ) (page : judged bytes ≡ Accepted) (es : List Event) (s : Sample)
    (taken : (offered (after bytes es) s).verdict ≡ Accepted) (p : ℕ) (inside : p < protections) where
  abbrev l : Limits
  l = limits_at (page_of bytes).limits p

  good : GoodLimits (row_at p).direction l
  good = limits-good (page_of bytes) (page-good bytes page) p inside

  -- The latest of the samples with this one.
  latest : (test : Sample → Bool) → last_all 1 test (samples bytes (offer s ∷ es)) ≡ true → test (trimmed s) ≡ true
  latest test e = and-left (test (trimmed s)) true (rw (samples-with bytes es s taken) at e)

  now : has_bit (shown bytes (offer s ∷ es)).raised p ≡ raised (row_at p) l (trimmed s ∷ samples bytes es)
  now = raised-bit bytes (offer s ∷ es) p inside ∙ ap (raised (row_at p) l) (samples-with bytes es s taken)

  -- One more accepted sample that trips protection p does not release it,
  pub tripping-never-releases : last_all 1 (trips_it bytes p) (samples bytes (offer s ∷ es)) ≡ true
      → has_bit (shown bytes es).raised p ≡ true → has_bit (shown bytes (offer s ∷ es)).raised p ≡ true
  tripping-never-releases t e =
      let not-released = never-at-once (row_at p) l good (trimmed s) (latest (trips_it bytes p) t) in
      now
      ∙ released-when (row_at p) l (trimmed s) (samples bytes es) (sym (raised-bit bytes es p inside) ∙ e)
      ∙ ap not (last-not (releases_it bytes p) l.m (trimmed s) (samples bytes es) good.m-least not-released)

  -- and one that meets its release condition does not raise it.
  pub releasing-never-raises : last_all 1 (releases_it bytes p) (samples bytes (offer s ∷ es)) ≡ true
      → has_bit (shown bytes es).raised p ≡ false → has_bit (shown bytes (offer s ∷ es)).raised p ≡ false
  releasing-never-raises q e =
      let not-tripped : trips_it bytes p (trimmed s) ≡ false =
      by-test (trips_it bytes p (trimmed s))
      (λ t. clash (latest (releases_it bytes p) q) (never-at-once (row_at p) l good (trimmed s) t))
      (λ t. t) in
      now
      ∙ raised-when (row_at p) l (trimmed s) (samples bytes es) (sym (raised-bit bytes es p inside) ∙ e)
      ∙ last-not (trips_it bytes p) l.n (trimmed s) (samples bytes es) good.n-least not-tripped

-- ==== "A LOWEST CELL THAT WANTS BLEEDING"

-- They are those of a cell of the sample, if it has one,
lowest-place : (s : Sample) → 1 ≤ s.count → (d : ℕ) × (1 ≤ d) × (d ≤ s.count) × (lowest_volts s ≡ volts_of s.cells d)
unfolding extremes_of volts_of
lowest-place s some =
    let at = lowest-among s.cells (ten_at_most s.count) few.0 in
    let inside = at.within in
    let most = few.1 in
    let place : at.place ≡ suc at.place - 1 = omega arith in
    let volts = ap (λ (f : Found). f.volts.0) at.is ∙ ap (λ (i : ℕ). (get_or s.cells i no_volts).0) place in
    (suc at.place, omega arith, omega arith, volts)
  where
    few : (1 ≤ ten_at_most s.count) × (ten_at_most s.count ≤ s.count)
    few =
        by-test (ltb s.count 10)
        (λ t. rw t (some, omega arith))
        (λ t. let h = ltb-false s.count 10 t in rw t (omega arith, omega arith))

-- and no cell of a sample of ten at most is below them.
lowest-below : (s : Sample) → s.count ≤ 10 → (d : ℕ) → 1 ≤ d → d ≤ s.count → lowest_volts s ≤ volts_of s.cells d
unfolding extremes_of volts_of
lowest-below s ten d first last =
    lowest-least s.cells (ten_at_most s.count) (d - 1) (rw (ten-all s.count ten) (omega arith))

-- So a lowest cell is one whose millivolts are these: ties included.
at-lowest : (s : Sample) (k : ℕ) → IsLowest s k → volts_of s.cells k ≤ lowest_volts s
at-lowest s k low =
    let first = low.first in
    let last = low.last in
    let at = lowest-place s (omega arith) in
    rw at.3 (low.least at.0 at.1 at.2)

pub lowest-exactly : (s : Sample) → s.count ≤ 10 → (k : ℕ) → 1 ≤ k → k ≤ s.count → IsLowest s k ↔ (volts_of s.cells k ≡ lowest_volts s)
lowest-exactly s ten k first last = (
  λ low. let a = at-lowest s k low in let b = lowest-below s ten k first last in omega arith,
  λ e. record { first = first; last = last; least = λ d from to. let b = lowest-below s ten d from to in omega arith },
)

-- A cell that is no higher than the lowest does not exceed it, by whatever difference.
none-at-lowest : (charges up : Bool) (floor difference low cell : ℕ) → cell ≤ low → wants charges up floor difference low cell ≡ false
unfolding wants
none-at-lowest charges up floor difference low cell h =
    rw (le-ltb (low + difference) cell (omega arith)) (ends (charges && not up && leb floor cell))
  where
    ends : (a : Bool) → a && false ≡ false
    ends true = refl
    ends false = refl

lowest-wish : (page : Settings) (s : Sample) (h : List Sample) (k : ℕ) → IsLowest s k → wish_at page s h k ≡ false
unfolding wish_at wishes
lowest-wish page s h k low = none-at-lowest _ _ _ _ _ _ (at-lowest s k low)

lowest-wishes : (page : Settings) (h : List Sample) (j k : ℕ) → IsLowest (get_or h j no_sample) k → get_or (wishes_after page h) j nobody k ≡ false
unfolding wishes_after
lowest-wishes page [] j k low = refl
lowest-wishes page (s ∷ h) zero k low = lowest-wish page s h k low
lowest-wishes page (s ∷ h) (suc j) k low = lowest-wishes page h j k low

-- At the accepted sample j before the latest no lowest cell wants. That the page is accepted is what the request starts from; this one
-- holds whatever the difference is, and of a refused page no sample is accepted.
pub lowest-never-wants : (bytes : List ℕ) → judged bytes ≡ Accepted → (es : List Event) (j k : ℕ)
    → IsLowest (get_or (samples bytes es) j no_sample) k → get_or (wanted bytes es) j nobody k ≡ false
lowest-never-wants bytes taken es j k low = lowest-wishes (page_of bytes) (samples bytes es) j k low

-- ---- nor is one bled: its bit is in no balance shown

-- Only a cell that wants is bled.
bleds-want : (page : Settings) (h : List Sample) (j k : ℕ) → has k (get_or (bleds_after page h) j []) ≡ true → get_or (wishes_after page h) j nobody k ≡ true
unfolding wishes_after
bleds-want page [] j k e = clash refl (sym e)
bleds-want page (s ∷ h) zero k e =
    let rests = resting page.rules.r (bleds_after page h) in
    let start = start_cell page.rules.n (length (wishes_after page h)) in
    and-left (wish_at page s h k) (not (rests k)) (only-wanting page.rules.n page.rules.k (wish_at page s h) rests start k e)
bleds-want page (s ∷ h) (suc j) k e = bleds-want page h j k e

pub bled-wants : (bytes : List ℕ) → judged bytes ≡ Accepted → (es : List Event) (j k : ℕ) → 1 ≤ k
    → holds_cell (get_or (shown_words bytes es) j 0) k ≡ true → get_or (wanted bytes es) j nobody k ≡ true
bled-wants bytes taken es j k first e =
    bleds-want (page_of bytes) (samples bytes es) j k
    (sym (words-at (page_of bytes) (page-good bytes taken) k first j (samples bytes es)) ∙ rw (shown-words bytes es) at e)

pub lowest-never-bled : (bytes : List ℕ) → judged bytes ≡ Accepted → (es : List Event) (j k : ℕ)
    → IsLowest (get_or (samples bytes es) j no_sample) k → holds_cell (get_or (shown_words bytes es) j 0) k ≡ false
lowest-never-bled bytes taken es j k low =
    by-test (holds_cell (get_or (shown_words bytes es) j 0) k)
    (λ t. clash (bled-wants bytes taken es j k low.first t) (lowest-never-wants bytes taken es j k low))
    (λ t. t)
