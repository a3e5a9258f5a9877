-- A sample that is inside every band moves no protection. The laws stand in proofs/ and not beside the definitions of specs/Bands.antt: an edit
-- that makes one of those wrong is then refused by them.
-- Assumes nothing.
use Rattle.std.specs.Prelude.{◌≡◌, refl, Bool, true, false, not, ◌&&◌, List, T, eqb, ℤ, pos, negsuc, ◌≤ℤ◌, get_or}
use Rattle.std.proofs.Math.Path.{sym, ap}
use Rattle.std.proofs.Common.{◌∙◌, true≢false, not-suc-le-zero, eq-or-lt_of_le, le_of_suc-le-suc, add-one, arith, length-set, get_or-set_same, get_or-set_other, ltb-true, le-leb, eqb-true}
use Rattle.std.proofs.Math.Logic.{⊎_elim}
use Prim.Native.Nat.{ℕ, zero, suc, ◌+◌, ◌<◌}
use Rattle.std.specs.Int.Signed.{lt_z, lt_z_yes, le_z_yes, lt_z_no, <ℤ-≤ℤ_trans, clash_ℤ}
use Rattle.std.proofs.Math.ListN.{length}
use Rattle.laws.specs.Tests.{by-test, clash, and-left, and-right}
use Rattle.protections.specs.declared.Direction.{Direction}
use Rattle.protections.specs.declared.Direction.TheVariants.{Above, Below}
use Rattle.protections.specs.declared.Quantity.{Quantity}
use Rattle.protections.specs.declared.Quantity.TheVariants.{HighestCell, LowestCell, Current, Temperature1, Temperature2}
use Rattle.guard_watch.specs.Bands.{place_of, inside, nowhere, inside_at, is_calm, is_still, short_of, narrowed_by, narrowed, narrowed_at, bands_to}
use Rattle.std.proofs.lemmas.Bool.{eqb-false, not-true}
use Rattle.laws.specs.Each.{each-same}
use Rattle.laws.specs.Latest.{next_run}
use Rattle.protections.specs.declared.Limits.{Limits}
use Rattle.protections.specs.Direction.{reaches, back_of}
use Rattle.protections.specs.Table.{row_at, protections}
use Rattle.sample.specs.declared.Sample.{Sample}
use Rattle.sample.specs.declared.Extremes.{Extremes}
use Rattle.sample.specs.Measure.{measured, less-no}
use Rattle.guard.specs.declared.rule.Protection.{Protection}
use Rattle.guard.specs.declared.rule.Alarm.{Alarm}
use Rattle.guard.specs.declared.rule.Alarm.TheVariants.{Clear, Raised}
use Rattle.guard.specs.Runs.{next_alarm, clear-short, raised-short}
use Rattle.guard.specs.Steps.{no_protection, step_one, step_at, step_all}
use Rattle.guard_watch.specs.declared.Band.{Band}

-- ---- the order of signed numbers

passed : (b : Bool) → T b → b ≡ true
passed true t = refl
passed false t = absurd t

less-le : (a b : ℤ) → lt_z a b ≡ true → a ≤ℤ b
less-le (pos a) (pos b) e = le_z_yes (rw (le-leb a b (let h = ltb-true a b e in omega arith)) tt)
less-le (pos a) (negsuc b) e = absurd (true≢false (sym e))
less-le (negsuc a) (pos b) e = le_z_yes tt
less-le (negsuc a) (negsuc b) e = le_z_yes (rw (le-leb b a (let h = ltb-true b a e in omega arith)) tt)

-- Less than one that is no more than a third.
less-through : (a b c : ℤ) → lt_z a b ≡ true → b ≤ℤ c → lt_z a c ≡ true
less-through a b c e h = passed (lt_z a c) (<ℤ-≤ℤ_trans {a = a} {b = b} {c = c} (lt_z_yes (rw e tt)) h).lt

-- Less than one that is more than a third, which is no less.
less-past : (a b c : ℤ) → lt_z b a ≡ false → lt_z b c ≡ true → lt_z a c ≡ true
less-past a b c f t = by-test (lt_z a c) (λ x. x) (λ x. clash (less-through b c a t (lt_z_no (rw x tt))) f)

-- ---- one band

-- A value short of a level is inside the band, and does not reach the level.
short-inside : (b : Band) (d : Direction) (l v : ℤ) → inside (short_of b d l) v ≡ true → (inside b v ≡ true) × (reaches d l v ≡ false)
short-inside b Above l v =
    by-test (lt_z l b.below.0)
    (λ t. rw t (λ e.
    let low = and-left (lt_z b.above.0 v) (lt_z v l) e in
    let high = and-right (lt_z b.above.0 v) (lt_z v l) e in
    (rw (low, less-through v l b.below.0 high (less-le l b.below.0 t)), less-no v l high)))
    (λ f. rw f (λ e.
    let high = and-right (lt_z b.above.0 v) (lt_z v b.below.0) e in
    (e, less-no v l (less-through v b.below.0 l high (lt_z_no (rw f tt))))))
short-inside b Below l v =
    by-test (lt_z b.above.0 l)
    (λ t. rw t (λ e.
    let low = and-left (lt_z l v) (lt_z v b.below.0) e in
    let high = and-right (lt_z l v) (lt_z v b.below.0) e in
    (rw (less-through b.above.0 l v t (less-le l v low), high), less-no l v low)))
    (λ f. rw f (λ e. (e, less-no l v (less-past l b.above.0 v f (and-left (lt_z b.above.0 v) (lt_z v b.below.0) e)))))

nowhere-inside {ℓ} : {X : Type ℓ} (v : ℤ) → inside nowhere v ≡ true → X
nowhere-inside v e =
    clash_ℤ {a = pos 0} {b = v} (lt_z_yes (rw (and-left (lt_z (pos 0) v) (lt_z v (pos 0)) e) tt))
    (less-le v (pos 0) (and-right (lt_z (pos 0) v) (lt_z v (pos 0)) e))

-- With no run, an alarm stays as it is where the next level is not reached.
some-of : (n : ℕ) → not (eqb n 0) ≡ true → 0 < n
some-of n e = let other = eqb-false n 0 (not-true (eqb n 0) e) in above n other
  where
    above : (n : ℕ) → (n ≡ 0 → ⊥) → 0 < n
    above zero q = absurd (q refl)
    above (suc n) q = omega arith

narrow-by : (b : Band) (d : Direction) (l : Limits) (a : Alarm) (v : ℤ) → inside (narrowed_by b d l a) v ≡ true
    → (inside b v ≡ true) × (next_alarm l.n l.m (reaches d l.trip.0 v) (reaches (back_of d) l.release.0 v) a ≡ a)
unfolding next_run
narrow-by b d l (Clear run) v =
    by-test (is_still run l.n)
    (λ t. rw t (λ e.
    let q = short-inside b d l.trip.0 v e in
    let none = eqb-true run 0 (and-left (eqb run 0) (not (eqb l.n 0)) t) in
    let some = some-of l.n (and-right (eqb run 0) (not (eqb l.n 0)) t) in
    (q.0, rw (none, q.1) (clear-short l.n 0 0 false refl some))))
    (λ f. rw f (λ e. nowhere-inside v e))
narrow-by b d l (Raised run) v =
    by-test (is_still run l.m)
    (λ t. rw t (λ e.
    let q = short-inside b (back_of d) l.release.0 v e in
    let none = eqb-true run 0 (and-left (eqb run 0) (not (eqb l.m 0)) t) in
    let some = some-of l.m (and-right (eqb run 0) (not (eqb l.m 0)) t) in
    (q.0, rw (none, q.1) (raised-short l.m 0 0 false refl some))))
    (λ f. rw f (λ e. nowhere-inside v e))

-- A value inside what a protection leaves of a band is inside the band, and does not move the protection.
narrowed-inside : (b : Band) (d : Direction) (p : Protection) (v : ℤ) → inside (narrowed b d p) v ≡ true
    → (inside b v ≡ true) × (step_one d v p ≡ p)
unfolding narrowed step_one
narrowed-inside b d p v e =
    let q = narrow-by b d p.limits p.alarm v e in
    (q.0, ap (λ (a : Alarm). record { limits = p.limits; alarm = a }) q.1)

-- ---- all bands

abbrev quantity_at : ℕ → Quantity
quantity_at zero = HighestCell
quantity_at (suc zero) = LowestCell
quantity_at (suc (suc zero)) = Current
quantity_at (suc (suc (suc zero))) = Temperature1
quantity_at (suc (suc (suc (suc k)))) = Temperature2

quantity-at : (q : Quantity) → quantity_at (place_of q) ≡ q
quantity-at HighestCell = refl
quantity-at LowestCell = refl
quantity-at Current = refl
quantity-at Temperature1 = refl
quantity-at Temperature2 = refl

place-most : (q : Quantity) → place_of q < 5
place-most HighestCell = omega arith
place-most LowestCell = omega arith
place-most Current = omega arith
place-most Temperature1 = omega arith
place-most Temperature2 = omega arith

-- One turn of the loop over the protections.
pub bands-next : (ps : List Protection) (i : ℕ) (bands r : List Band) → bands ≡ bands_to ps i → r ≡ narrowed_at bands i (get_or ps i no_protection)
    → r ≡ bands_to ps (i + 1)
unfolding bands_to
bands-next ps i bands r e q = rw (add-one, q, e)

bands-length : (ps : List Protection) (k : ℕ) → length (bands_to ps k) ≡ 5
unfolding bands_to narrowed_at
bands-length ps zero = refl
bands-length ps (suc k) = rw length-set (bands-length ps k)

all-five : (a b c d e : Bool) → a && b && c && d && e ≡ true → (a ≡ true) × (b ≡ true) × (c ≡ true) × (d ≡ true) × (e ≡ true)
all-five true true true true e r = (refl, refl, refl, refl, r)
all-five true true true false e r = absurd (true≢false (sym r))
all-five true true false d e r = absurd (true≢false (sym r))
all-five true false c d e r = absurd (true≢false (sym r))
all-five false b c d e r = absurd (true≢false (sym r))

module _ (e : Extremes) (s : Sample) where
  abbrev AllInside : List Band → Type 0
  AllInside bands = (q : Quantity) → inside_at bands e s q ≡ true

  calm-all : (bands : List Band) → is_calm bands e s ≡ true → AllInside bands
  unfolding is_calm
  calm-all bands c =
      let q = all-five (inside_at bands e s HighestCell) (inside_at bands e s LowestCell) (inside_at bands e s Current) (inside_at bands e s Temperature1) (inside_at bands e s Temperature2) c in
      each q
    where
      each : (inside_at bands e s HighestCell ≡ true) × (inside_at bands e s LowestCell ≡ true) × (inside_at bands e s Current ≡ true) × (inside_at bands e s Temperature1 ≡ true) × (inside_at bands e s Temperature2 ≡ true) → AllInside bands
      each q HighestCell = q.0
      each q LowestCell = q.1
      each q Current = q.2
      each q Temperature1 = q.3
      each q Temperature2 = q.4

  -- Inside every band with one narrowed by protection k: inside every band, and protection k does not move.
  narrowed-all : (bands : List Band) (k : ℕ) (p : Protection) → length bands ≡ 5 → AllInside (narrowed_at bands k p)
      → AllInside bands × (step_at e s k p ≡ p)
  unfolding inside_at narrowed_at step_at
  narrowed-all bands k p five all =
      let own : Quantity = (row_at k).quantity in
      let place : place_of own < length bands = rw five (place-most own) in
      let here = narrowed-inside (get_or bands (place_of own) nowhere) (row_at k).direction p (measured e own s)
      (rw (get_or-set_same bands (place_of own) _ nowhere place) at (all own)) in (
        λ q. by-test (eqb (place_of q) (place_of own))
            (λ t. let same : own ≡ q = sym (quantity-at own) ∙ ap quantity_at (sym (eqb-true (place_of q) (place_of own) t)) ∙ quantity-at q in
            rw (← same) here.0)
            (λ f. rw (get_or-set_other bands (place_of own) (place_of q) _ nowhere (eqb-false (place_of q) (place_of own) f)) at (all q)),
        here.1,
      )

  bands-stay : (ps : List Protection) (k : ℕ) → AllInside (bands_to ps k) → (i : ℕ) → i < k
      → step_at e s i (get_or ps i no_protection) ≡ get_or ps i no_protection
  unfolding bands_to
  bands-stay ps zero all i h = absurd (not-suc-le-zero h)
  bands-stay ps (suc k) all i h =
      let q = narrowed-all (bands_to ps k) k (get_or ps k no_protection) (bands-length ps k) all in
      ⊎_elim
      (λ (same : i ≡ k). rw same q.1)
      (λ (lt : i < k). bands-stay ps k q.0 i lt)
      (eq-or-lt_of_le (le_of_suc-le-suc h))

  -- THE BANDS: a sample inside those of all protections moves none.
  pub calm-stays : (ps : List Protection) → is_calm (bands_to ps protections) e s ≡ true → step_all e s ps ≡ ps
  unfolding step_all
  calm-stays ps c = each-same no_protection (step_at e s) protections ps (bands-stay ps protections (calm-all (bands_to ps protections) c))
