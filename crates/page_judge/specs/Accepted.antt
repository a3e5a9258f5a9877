-- What an accepted page says of each of its words.
-- Assumes nothing.
use Rattle.std.specs.Prelude.{Ok, Err, ◌≡◌, refl, Bool, false, cond, List, leb, eqb, length, get_or, take}
use Rattle.std.proofs.Common.{sym, ◌∙◌, not-suc-le-zero, zero-add, add-zero, le_refl}
use Rattle.std.proofs.Math.Path.{subst}
use Rattle.std.proofs.Math.Bool.{true}
use Prim.Native.Nat.{ℕ, zero, suc, ◌+◌, ◌*◌, ◌<◌, ◌≤◌}
use native.Mathlib.Omega.{arith}
use borrow.Author.Tests.{leb-true, eqb-true}
use Rattle.laws.specs.Numbered.{list_from}
use Rattle.laws.specs.Tests.{by-test, and-left, and-right}
use Rattle.crc.specs.CheckByte.{check_byte}
use Rattle.units.specs.declared.ProtectionNo.{ProtectionNo}
use Rattle.protections.specs.Direction.{in_order}
use Rattle.protections.specs.Limits.{least_run, most_run, most_mask}
use Rattle.protections.specs.Table.{row_at}
use Rattle.page_words.specs.Ranges.{word_at, within, level_fits, level_of}
use Rattle.page_faults.specs.Kinds.{layout_of, check_at, bytes_of, both, has-room, front_kind, trip_word, part_kind, kind_of, kind-front, kind-part, Inside}
use Rattle.page_faults.specs.Met.{level_met, order_met, on_row, kind_meets, meets}
use Rattle.page_faults.specs.declared.Layout.{Layout}
use Rattle.page_faults.specs.declared.Kind.{Kind}
use Rattle.page_faults.specs.declared.Kind.TheVariants.{Mark, Setting, Reserved, Trip, Release, Limit, Last, Outside}
use Rattle.page_judge.specs.Page.{read_backwards, judged}
use Rattle.page_judge.specs.Walk.{lowest_from, lowest_word, or_else, faults_of, starts, judged-is}
use Rattle.page_judge.specs.Exactly.{refused-not}
use Rattle.refusals.specs.Verdicts.{Verdict, Accepted, Refused}

-- ---- out of the verdict

-- No verdict of four refuses, if none of them taken one after the other does.
all-accepted : (v5 v6 v7 v8 : Verdict) → or_else v5 (or_else v6 (or_else v7 v8)) ≡ Accepted
    → (v5 ≡ Accepted) × (v6 ≡ Accepted) × (v7 ≡ Accepted) × (v8 ≡ Accepted)
all-accepted (Ok x) (Ok y) (Ok z) v8 e = (refl, refl, refl, e)
all-accepted (Ok x) (Ok y) (Err r) v8 e = absurd (refused-not r.number r.word e)
all-accepted (Ok x) (Err r) v7 v8 e = absurd (refused-not r.number r.word e)
all-accepted (Err r) v6 v7 v8 e = absurd (refused-not r.number r.word e)

-- The four tests of the whole page, and the rest of the table.
record Passed (t1 t2 t3 : Bool) (v : Verdict) : Type 0 where
  bytes : t1 ≡ true
  mark : t2 ≡ true
  check : t3 ≡ true
  faults : v ≡ Accepted

passed : (t1 t t2 t3 : Bool) (v : Verdict)
    → cond t1 (cond t (Refused 2 0) (cond t2 (cond t3 v (Refused 4 0)) (Refused 3 0))) (Refused 1 0) ≡ Accepted → Passed t1 t2 t3 v
passed false t t2 t3 v e = absurd (refused-not 1 0 e)
passed true true t2 t3 v e = absurd (refused-not 2 0 e)
passed true false false t3 v e = absurd (refused-not 3 0 e)
passed true false true false v e = absurd (refused-not 4 0 e)
passed true false true true v e = record { bytes = refl; mark = refl; check = refl; faults = e }

first-met : (l : Layout) (row : ℕ) (b : List ℕ) (i k : ℕ) → lowest_from l row b i k ≡ Accepted → (j : ℕ) → j < k → meets l row b (i + j) ≡ true
unfolding lowest_from list_from
first-met l row b i zero e j h = absurd (not-suc-le-zero h)
first-met l row b i (suc k) e zero h = by-test (meets l row b i) (λ t. rw add-zero t) (λ t. absurd (refused-not _ i (rw t at e)))
first-met l row b i (suc k) e (suc j) h =
    by-test (meets l row b i)
    (λ t.
    let z : suc i + j ≡ i + suc j = omega arith in
    subst (λ (x : ℕ). meets l row b x ≡ true) z (first-met l row b (suc i) k (rw t at e) j (omega arith)))
    (λ t. absurd (refused-not _ i (rw t at e)))

pub within-says : (low high x : ℕ) → within low high x ≡ true → (low ≤ x) × (x ≤ high)
unfolding within
within-says low high x e = (leb-true low x (and-left (leb low x) (leb x high) e), leb-true x high (and-right (leb low x) (leb x high) e))

-- A word that meets rows 6 and 7 is in its range, if it has one.
inside-says : (k : Kind) (b : List ℕ) (i : ℕ) → kind_meets k 6 b i ≡ true → kind_meets k 7 b i ≡ true → Inside k (word_at b i)
unfolding kind_meets on_row
inside-says Mark b i six seven = tt
inside-says (Setting low high) b i six seven = within-says low high (word_at b i) six
inside-says Reserved b i six seven = tt
inside-says (Trip p) b i six seven = tt
inside-says (Release p) b i six seven = tt
inside-says (Limit low high) b i six seven = within-says low high (word_at b i) seven
inside-says Last b i six seven = tt
inside-says Outside b i six seven = tt

-- Protection p as the table of words names it.
abbrev no : ℕ → ProtectionNo
no p = record { 0 = p }

-- The five words of protection p of a page are in range, and its levels in order.
pub record Limited (b : List ℕ) (p : ℕ) : Type 0 where
  pub trip : level_fits (row_at p).quantity (word_at b (trip_word p)) ≡ true
  pub release : level_fits (row_at p).quantity (word_at b (trip_word p + 1)) ≡ true
  pub n : (least_run ≤ word_at b (trip_word p + 2)) × (word_at b (trip_word p + 2) ≤ most_run)
  pub m : (least_run ≤ word_at b (trip_word p + 3)) × (word_at b (trip_word p + 3) ≤ most_run)
  pub mask : word_at b (trip_word p + 4) ≤ most_mask
  pub order : in_order (row_at p).direction (level_of (row_at p).quantity (word_at b (trip_word p))) (level_of (row_at p).quantity (word_at b (trip_word p + 1))) ≡ true

-- A page of any layout with room for its protections, none of whose words has a fault.
module _ (l : Layout) (room : trip_word l.protections ≤ l.last) (b : List ℕ) (e : faults_of l b ≡ Accepted) where
  row-met : (row : ℕ) → lowest_word l row b ≡ Accepted → (i : ℕ) → i ≤ l.last → kind_meets (kind_of l i) row b i ≡ true
  unfolding meets
  row-met row z i h =
      subst (λ (x : ℕ). meets l row b x ≡ true) (zero-add i) (first-met l row b 0 (suc l.last) (sym (starts l row b) ∙ z) i (omega arith))

  -- Every word meets each row, by what it is.
  rows : (lowest_word l 5 b ≡ Accepted) × (lowest_word l 6 b ≡ Accepted) × (lowest_word l 7 b ≡ Accepted) × (lowest_word l 8 b ≡ Accepted)
  unfolding faults_of
  rows = all-accepted (lowest_word l 5 b) (lowest_word l 6 b) (lowest_word l 7 b) (lowest_word l 8 b) e

  word-inside : (i : ℕ) → i ≤ l.last → Inside (kind_of l i) (word_at b i)
  word-inside i h = inside-says (kind_of l i) b i (row-met 6 rows.1 i h) (row-met 7 rows.2 i h)

  -- Words 1 to 8 are in their ranges.
  front-inside : (i : ℕ) → i < 16 → Inside (front_kind i) (word_at b i)
  front-inside i h = subst (λ (k : Kind). Inside k (word_at b i)) (kind-front l i h) (word-inside i (omega arith))

  words-limited : (p : ℕ) → p < l.protections → Limited b p
  unfolding kind_meets on_row level_met order_met
  words-limited p h =
      let part : (f : ℕ) → f < 5 → Inside (part_kind (no p) f) (word_at b (trip_word p + f)) =
      λ f g. subst (λ (k : Kind). Inside k (word_at b (trip_word p + f))) (kind-part l p f h g) (word-inside (trip_word p + f) (omega arith)) in
      let level : (row f : ℕ) → f < 5 → lowest_word l row b ≡ Accepted → kind_meets (part_kind (no p) f) row b (trip_word p + f) ≡ true =
      λ row f g z. subst (λ (k : Kind). kind_meets k row b (trip_word p + f) ≡ true) (kind-part l p f h g) (row-met row z (trip_word p + f) (omega arith)) in
      let z : trip_word p + 0 ≡ trip_word p = omega arith in
      record {
        trip = subst (λ (i : ℕ). kind_meets (Trip (no p)) 7 b i ≡ true) z (level 7 0 (omega arith) rows.2);
        release = level 7 1 (omega arith) rows.2;
        n = part 2 (omega arith);
        m = part 3 (omega arith);
        mask = (part 4 (omega arith)).1;
        order = subst (λ (i : ℕ). kind_meets (Trip (no p)) 8 b i ≡ true) z (level 8 0 (omega arith) rows.3);
      }

last-kind : (n : ℕ) → kind_of (layout_of n) (layout_of n).last ≡ Last
unfolding kind_of
last-kind = both (λ (l : Layout). kind_of l l.last ≡ Last) refl refl

module _ (b : List ℕ) (e : judged b ≡ Accepted) where
  -- The layout of the page.
  abbrev own : Layout
  own = layout_of (length b)

  tests : Passed (eqb (length b) (bytes_of own)) (eqb (word_at b 0) own.mark) (eqb (get_or b (check_at own) 0) (check_byte (take (check_at own) b))) (faults_of own b)
  tests =
      passed (eqb (length b) (bytes_of own)) (read_backwards (word_at b 0)) (eqb (word_at b 0) own.mark)
      (eqb (get_or b (check_at own) 0) (check_byte (take (check_at own) b))) (faults_of own b) (sym (judged-is b) ∙ e)

  pub accepted-length : length b ≡ bytes_of (layout_of (length b))
  accepted-length = eqb-true (length b) (bytes_of own) tests.bytes

  pub accepted-mark : word_at b 0 ≡ (layout_of (length b)).mark
  accepted-mark = eqb-true (word_at b 0) own.mark tests.mark

  -- Words 1 to 8 are in their ranges.
  pub accepted-inside : (i : ℕ) → i < 16 → Inside (front_kind i) (word_at b i)
  accepted-inside = front-inside own (has-room (length b)) b tests.faults

  -- So are the words of each protection that a page of this length has.
  pub accepted-limits : (p : ℕ) → p < (layout_of (length b)).protections → Limited b p
  accepted-limits = words-limited own (has-room (length b)) b tests.faults

  -- The low byte of the last word, in front of the check byte, is 0.
  pub accepted-last : get_or b (2 * (layout_of (length b)).last) 0 ≡ 0
  unfolding kind_meets on_row
  accepted-last =
      let i : ℕ = own.last in
      let met = row-met own (has-room (length b)) b tests.faults 5 (rows own (has-room (length b)) b tests.faults).0 i (le_refl i) in
      eqb-true (get_or b (2 * i) 0) 0 (subst (λ (k : Kind). kind_meets k 5 b i ≡ true) (last-kind (length b)) met)
