-- What the settings of an accepted page are good for: every fact that later proofs take from the page, in the units of the samples.
-- Assumes nothing.
use Rattle.std.specs.Prelude.{Ok, Err, None, ◌≡◌, refl, true, false, List, ℕ, ◌+◌, ◌<◌, ◌≤◌, length, set, replicate, ℤ, pos}
use Rattle.std.proofs.Common.{ap, ◌∙◌, arith, lt-ltb, le-ltb}
use Rattle.std.proofs.lemmas.List.{length-replicate}
use Rattle.laws.specs.Tests.{by-order}
use Rattle.laws.specs.Each.{each_to, each-next}
use Rattle.laws.specs.Numbered.{list_of-length, list_of-at, each-list_of}
use Rattle.units.specs.declared.Level.{Level}
use Rattle.units.specs.Signed.{signed_of}
use Rattle.protections.specs.Table.{row_with, row_at, row-past, protections}
use Rattle.protections.specs.Direction.{reaches, in_order, back_of}
use Rattle.protections.specs.Limits.{no_limits, limits_at, GoodLimits, AllGood}
use Rattle.protections.specs.declared.Limits.{Limits}
use Rattle.protections.specs.declared.Direction.{Direction}
use Rattle.protections.specs.declared.Direction.TheVariants.{Below}
use Rattle.protections.specs.declared.Quantity.{Quantity}
use Rattle.protections.specs.declared.Quantity.TheVariants.{HighestCell, LowestCell, Current, Temperature1, Temperature2}
use Rattle.page_words.specs.Ranges.{word_at, level_fits, level_of}
use Rattle.page_faults.specs.Kinds.{layout_of, both, front_kind, trip_word, Inside}
use Rattle.page_faults.specs.declared.Layout.{Layout}
use Rattle.page_judge.specs.Page.{refusals, judged}
use Rattle.page_judge.specs.Walk.{judged-answer}
use Rattle.page_judge.specs.Accepted.{Limited, accepted-inside, accepted-limits}
use Rattle.refusals.specs.Refusals.{given}
use Rattle.refusals.specs.Answers.{answer_of}
use Rattle.refusals.specs.Verdicts.{Verdict, Accepted}
use Rattle.page_settings.specs.Degrees.{tenths-order}
use Rattle.page_settings.specs.declared.Loaded.{Loaded}
use Rattle.page_settings.specs.declared.Settings.{Settings}
use Rattle.page_settings.specs.Settings.{in_degrees, sample_level, limits_from, page_protections, absent, limits_for, limits_of, rules_of, settings_of, loaded_with, loaded_of}

-- A value in the range of word i of the page.
abbrev pub InRange : ℕ → ℕ → Type 0
InRange i x = Inside (front_kind i) x

-- The same, read as a signed number: it is no less than 0.
pub record InRangeSigned (i : ℕ) (z : ℤ) : Type 0 where
  pub value : ℕ
  pub is : z ≡ pos value
  pub inside : InRange i value

-- Each setting is in the range of its word, and the limits of each protection are good.
pub record Good (s : Settings) : Type 0 where
  pub n : InRange 1 s.rules.n
  pub k : InRange 2 s.rules.k
  pub r : InRange 3 s.rules.r
  pub floor : InRange 4 s.rules.floor.0
  pub difference : InRange 5 s.rules.difference.0
  pub detection : InRangeSigned 6 s.rules.detection
  pub voltage : InRange 7 s.rules.voltage.0
  pub current : InRangeSigned 8 s.rules.current
  pub count : length s.limits ≡ protections
  pub each : AllGood s.limits

-- ---- the limits, one protection after the other

-- Entry p of the array is filled in, whatever stood there.
abbrev fill : List ℕ → ℕ → Limits → Limits
fill b p l = limits_for b p

-- The array with the first p filled in.
abbrev pub limits_to : List ℕ → ℕ → List Limits
limits_to b p = each_to no_limits (fill b) p (replicate protections no_limits)

pub limits-next : (b : List ℕ) (p : ℕ) (ls : List Limits) (l : Limits) → ls ≡ limits_to b p → l ≡ limits_for b p
    → set ls p l ≡ limits_to b (p + 1)
limits-next b p ls l e el = each-next no_limits (fill b) p (replicate protections no_limits) ls l e el

pub limits-are : (b : List ℕ) → limits_to b protections ≡ limits_of b
unfolding limits_of
limits-are b = each-list_of no_limits (fill b) (limits_for b) protections (replicate protections no_limits) (length-replicate protections no_limits) (λ p h. refl)

limits-count : (b : List ℕ) → length (limits_of b) ≡ protections
unfolding limits_of
limits-count b = list_of-length (limits_for b) protections

limits-at : (b : List ℕ) (p : ℕ) → p < protections → limits_at (limits_of b) p ≡ limits_for b p
unfolding limits_of
limits-at b p h = list_of-at (limits_for b) protections p no_limits h

-- A page has the first eight protections at least, and no more than there are.
least-protections : (b : List ℕ) → 8 ≤ page_protections b
least-protections b = both (λ (l : Layout). 8 ≤ l.protections) (omega arith) (omega arith) (length b)

pub most-protections : (b : List ℕ) → page_protections b ≤ protections
most-protections b = both (λ (l : Layout). l.protections ≤ protections) (omega arith) (omega arith) (length b)

-- A page of 128 bytes has eight.
pub short-protections : (b : List ℕ) → length b ≡ 128 → page_protections b ≡ 8
short-protections b e = ap (λ (n : ℕ). (layout_of n).protections) e

-- Entry p of the array is what the page says of protection p,
pub limits-own : (b : List ℕ) (p : ℕ) → p < page_protections b → limits_at (limits_of b) p ≡ limits_from b p
unfolding limits_for
limits-own b p h = let most = most-protections b in limits-at b p (omega arith) ∙ rw (lt-ltb p (page_protections b) h)

-- and where the page does not have it, nothing reaches its levels.
pub limits-past : (b : List ℕ) (p : ℕ) → page_protections b ≤ p → p < protections → limits_at (limits_of b) p ≡ absent
unfolding limits_for
limits-past b p h inside = limits-at b p inside ∙ rw (le-ltb p (page_protections b) h)

-- ---- levels keep their order

-- Trip and release words in order stand for levels in order.
level-order : (q : Quantity) (d : Direction) (x y : ℕ) → level_fits q x ≡ true → level_fits q y ≡ true
    → in_order d (level_of q x) (level_of q y) ≡ true → in_order d (sample_level d q x) (sample_level (back_of d) q y) ≡ true
unfolding level_fits level_of in_degrees sample_level
level-order HighestCell d x y a b h = h
level-order LowestCell d x y a b h = h
level-order Current d x y a b h = h
level-order Temperature1 d x y a b h = tenths-order d (signed_of x) (signed_of y) a b h
level-order Temperature2 d x y a b h = tenths-order d (signed_of x) (signed_of y) a b h

range-signed : (i x : ℕ) → InRange i x → x ≤ 32767 → InRangeSigned i (signed_of x)
unfolding signed_of
range-signed i x h g = record { value = x; is = rw (lt-ltb x 32768 (omega arith)); inside = h }

-- What an accepted page says of N, M and mask is good beside any levels that stand in order.
words-good : (b : List ℕ) (p : ℕ) → Limited b p → (trip release : Level) → in_order (row_at p).direction trip.0 release.0 ≡ true
    → GoodLimits (row_at p).direction (record {
      trip = trip;
      release = release;
      n = (limits_from b p).n;
      m = (limits_from b p).m;
      mask = (limits_from b p).mask;
    })
unfolding limits_from
words-good b p l trip release order =
    record {
      n-least = l.n.0;
      n-most = l.n.1;
      m-least = l.m.0;
      m-most = l.m.1;
      mask-most = l.mask;
      ordered = order;
    }

-- The levels of its words do.
words-order : (b : List ℕ) (p : ℕ) → Limited b p → in_order (row_at p).direction
    (sample_level (row_at p).direction (row_at p).quantity (word_at b (trip_word p)))
    (sample_level (back_of (row_at p).direction) (row_at p).quantity (word_at b (trip_word p + 1)))
    ≡ true
words-order b p l = level-order (row_at p).quantity (row_at p).direction (word_at b (trip_word p)) (word_at b (trip_word p + 1)) l.trip l.release l.order

-- What an accepted page says of a protection that it has is good,
own-good : (b : List ℕ) → judged b ≡ Accepted → (p : ℕ) → p < page_protections b → GoodLimits (row_at p).direction (limits_from b p)
unfolding limits_from
own-good b e p h =
    let l : Limited b p = accepted-limits b e p h in
    words-good b p l (limits_from b p).trip (limits_from b p).release (words-order b p l)

-- and so is what stands for one that it does not have: those look at temperature 1 and trip at or below.
pub past-row : (b : List ℕ) (p : ℕ) → page_protections b ≤ p → row_at p ≡ row_with Temperature1 Below None
past-row b p h = let least = least-protections b in row-past p (omega arith)

absent-good : (b : List ℕ) (p : ℕ) → page_protections b ≤ p → GoodLimits (row_at p).direction absent
absent-good b p h =
    rw (past-row b p h)
    (record { n-least = omega arith; n-most = omega arith; m-least = omega arith; m-most = omega arith; mask-most = omega arith; ordered = refl })

-- No temperature reaches its trip level.
pub absent-unreached : (t : ℕ) → reaches Below absent.trip.0 (pos t) ≡ false
absent-unreached t = refl

-- The settings of an accepted page are good.
pub accepted-good : (b : List ℕ) → judged b ≡ Accepted → Good (settings_of b)
unfolding settings_of rules_of limits_from
accepted-good b e =
    let at : (i : ℕ) → i < 16 → InRange i (word_at b i) = accepted-inside b e in
    record {
      n = at 1 (omega arith);
      k = at 2 (omega arith);
      r = at 3 (omega arith);
      floor = at 4 (omega arith);
      difference = at 5 (omega arith);
      detection = range-signed 6 (word_at b 6) (at 6 (omega arith)) (at 6 (omega arith)).1;
      voltage = at 7 (omega arith);
      current = range-signed 8 (word_at b 8) (at 8 (omega arith)) (at 8 (omega arith)).1;
      count = limits-count b;
      each = λ p h. by-order p (page_protections b)
          (λ own.
          let l : Limited b p = accepted-limits b e p own in
          rw (limits-own b p own) (words-good b p l (limits_from b p).trip (limits_from b p).release (words-order b p l)))
          (λ past. rw (limits-past b p past h) (absent-good b p past));
    }

-- ---- what a load gives

with-verdict : (v : Verdict) (b : List ℕ) → (loaded_with v b).verdict ≡ v
with-verdict (Ok done) b = refl
with-verdict (Err refusal) b = refl

-- The verdict of a load is the judge's, with its number and word.
pub loaded-answer : (b : List ℕ) (r : Loaded) → r ≡ loaded_of b → (r ≡ loaded_of b) × (answer_of r.verdict ≡ given (refusals b))
unfolding loaded_of
loaded-answer b r e = (e, (judged-answer b r.verdict (ap (λ (l : Loaded). l.verdict) e ∙ with-verdict (judged b) b)).1)
