-- What the rows of a line imply: a line that can be read has 80 bytes at most and no carriage return, so that these two rows change no
-- answer; and the steps of the reader.
-- Assumes nothing.
use Prim.Native.Nat.{ℕ, zero, suc, ◌+◌, ◌*◌, ◌-◌, ◌<◌, ◌≤◌}
use Rattle.std.specs.Prelude.{◌≡◌, Bool, true, false, cond, ◌⊎◌, ltb, eqb, ℤ, pos, negsuc, length, set, get_or, replicate, Option, Some, None}
use Rattle.std.proofs.Math.Path.{refl}
use Rattle.std.proofs.Common.{sym, ap, ◌∙◌, ⊎_elim, add-one, lit≤, lt-ltb, le-ltb, eqb-true, leb-true, ne_eqb}
use mathlib.Core.List.{List, [], ◌∷◌}
use Rattle.std.proofs.Math.Logic.{inl, inr}
use native.Mathlib.Omega.{arith}
use Rattle.laws.specs.Tests.{by-test, clash}
use Rattle.units.specs.declared.MilliVolts.{MilliVolts}
use Rattle.sample.specs.Cells.{no_volts}
use Rattle.text_fields.specs.Finding.{lacks}
use Rattle.text_fields.specs.Fields.{longer, fields_of, field_at}
use Rattle.text_numbers.specs.Numbers.{read_number, read_signed, signed_text}
use Rattle.text_fields.specs.Spelling.{decimal-length, decimal-lacks}
use Rattle.text_numbers.specs.Canonical.{InRange, number-text, signed-text}
use Rattle.log_entries.specs.Entry.{malformed, command, if_number, if_signed, read_command, cells_from, second_from, first_from, read_sample, is_letter, fields_say, read_entry}
use Rattle.log_entries.specs.Left.{left, left-some, left-next}
use Rattle.log_entries.specs.declared.Entry.{Entry}
use Rattle.log_entries.specs.Spread.{spread, clean}

longer-spread : (b : ℕ) (fs : List (List ℕ)) → 0 < spread fs → spread (longer b fs) ≡ suc (spread fs)
unfolding spread
longer-spread b [] h = absurd (omega arith)
longer-spread b (f ∷ fs) h = omega arith

-- A line has one byte less than its fields take.
pub fields-spread : (line : List ℕ) → spread (fields_of line) ≡ suc (length line)
unfolding fields_of spread
fields-spread [] = refl
fields-spread (b ∷ bs) =
    let k = fields-spread bs in
    by-test (eqb b 9)
    (λ t. rw t (omega arith))
    (λ t. rw t (longer-spread b (fields_of bs) (omega arith) ∙ ap suc k))

longer-clean : (w b : ℕ) (fs : List (List ℕ)) → clean w (longer b fs) ≡ cond (eqb b w) false (clean w fs)
unfolding clean lacks
longer-clean w b [] = by-test (eqb b w) (λ t. rw t) (λ t. rw t)
longer-clean w b (f ∷ fs) = by-test (eqb b w) (λ t. rw t) (λ t. rw t)

-- Its fields have a carriage return exactly if it has one.
pub fields-clean : (line : List ℕ) → clean 13 (fields_of line) ≡ lacks 13 line
unfolding fields_of clean lacks
fields-clean [] = refl
fields-clean (b ∷ bs) =
    by-test (eqb b 9)
    (λ t. rw (t, eqb-true b 9 t) (fields-clean bs))
    (λ t. rw t (longer-clean 13 b (fields_of bs) ∙ ap (λ (z : Bool). cond (eqb b 13) false z) (fields-clean bs)))

-- ---- what a field that is a number can have

record Neat (most : ℕ) (f : List ℕ) : Type 0 where
  few : length f ≤ most
  none : lacks 13 f ≡ true

neat-number : (f : List ℕ) (v : ℕ) → read_number f ≡ Some v → Neat 5 f
neat-number f v e =
    let t = number-text 65535 f v e in
    rw t.0 (record { few = decimal-length 4 v (omega (arith, t.1)); none = decimal-lacks 13 (lit≤ tt) v })

neat-text : (z : ℤ) → InRange z → Neat 6 (signed_text z)
unfolding signed_text lacks
neat-text (pos v) r =
    let k = leb-true v 32767 r.1 in
    let l = decimal-length 4 v (omega arith) in
    record { few = omega arith; none = decimal-lacks 13 (lit≤ tt) v }
neat-text (negsuc v) r =
    let k = leb-true v 32767 r.0 in
    let l = decimal-length 4 (suc v) (omega arith) in
    record { few = omega arith; none = decimal-lacks 13 (lit≤ tt) (suc v) }

neat-signed : (f : List ℕ) (z : ℤ) → read_signed f ≡ Some z → Neat 6 f
neat-signed f z e = let t = signed-text f z e in rw t.0 (neat-text z t.1)

-- ---- fields are malformed, or they take few bytes and have no carriage return

record Fine (most : ℕ) (fs : List (List ℕ)) : Type 0 where
  small : spread fs ≤ most
  none : clean 13 fs ≡ true

fine-more : (most part : ℕ) (f : List ℕ) (fs : List (List ℕ)) → Neat part f → Fine most fs → Fine (suc part + most) (f ∷ fs)
unfolding spread clean
fine-more most part f fs n r = record { small = omega (arith, n.few, r.small); none = rw n.none r.none }

-- One number more in front.
module _ (f : List ℕ) (fs : List (List ℕ)) (most : ℕ) (says : ℕ → Entry)
    (rest : (v : ℕ) → (says v ≡ malformed) ⊎ Fine most fs) where
  number-fine : (n : Option ℕ) → read_number f ≡ n → (if_number n says ≡ malformed) ⊎ Fine (6 + most) (f ∷ fs)
  number-fine None e = inl refl
  number-fine (Some v) e = ⊎_elim (λ z. inl z) (λ r. inr (fine-more most 5 f fs (neat-number f v e) r)) (rest v)

module _ (current : ℤ) (t1 t2 : ℕ) where
  -- left: how many cells may still come
  cells-fine : (left k : ℕ) (cells : List MilliVolts) (fs : List (List ℕ)) → k + left ≡ 10
      → (cells_from current t1 t2 k cells fs ≡ malformed) ⊎ Fine (6 * left) fs
  unfolding cells_from spread clean
  cells-fine left k cells [] h = inr (record { small = omega arith; none = refl })
  cells-fine zero k cells (f ∷ fs) h = inl (rw (le-ltb k 10 (omega arith)))
  cells-fine (suc left) k cells (f ∷ fs) h =
      let more : 6 + 6 * left ≡ 6 * suc left = omega arith in
      rw (lt-ltb k 10 (omega arith), ← more)
      (number-fine f fs (6 * left) (λ v. cells_from current t1 t2 (suc k) (set cells k (record { 0 = v })) fs)
      (λ v. cells-fine left (suc k) (set cells k (record { 0 = v })) fs (omega arith)) (read_number f) refl)

second-fine : (current : ℤ) (t1 : ℕ) (fs : List (List ℕ)) → (second_from current t1 fs ≡ malformed) ⊎ Fine 66 fs
unfolding second_from
second-fine current t1 [] = inl refl
second-fine current t1 (f ∷ fs) =
    number-fine f fs 60 (λ t2. cells_from current t1 t2 0 (replicate 10 no_volts) fs)
    (λ t2. cells-fine current t1 t2 10 0 (replicate 10 no_volts) fs refl) (read_number f) refl

first-fine : (current : ℤ) (fs : List (List ℕ)) → (first_from current fs ≡ malformed) ⊎ Fine 72 fs
unfolding first_from
first-fine current [] = inl refl
first-fine current (f ∷ fs) = number-fine f fs 66 (λ t1. second_from current t1 fs) (λ t1. second-fine current t1 fs) (read_number f) refl

sample-fine : (fs : List (List ℕ)) → (read_sample fs ≡ malformed) ⊎ Fine 79 fs
unfolding read_sample
sample-fine [] = inl refl
sample-fine (f ∷ fs) = by-value (read_signed f) refl
  where
    by-value : (n : Option ℤ) → read_signed f ≡ n → (if_signed n (λ current. first_from current fs) ≡ malformed) ⊎ Fine 79 (f ∷ fs)
    by-value None e = inl refl
    by-value (Some z) e = ⊎_elim (λ q. inl q) (λ r. inr (fine-more 72 6 f fs (neat-signed f z e) r)) (first-fine z fs)

command-fine : (fs : List (List ℕ)) → (read_command fs ≡ malformed) ⊎ Fine 79 fs
unfolding read_command spread clean
command-fine [] = inl refl
command-fine (f ∷ []) =
    number-fine f [] 73 command
    (λ c. inr (record { small = omega arith; none = refl })) (read_number f) refl
command-fine (f ∷ g ∷ fs) = inl refl

neat-letter : (c : ℕ) (f : List ℕ) → (c ≡ 13 → ⊥) → is_letter c f ≡ true → Neat 1 f
unfolding lacks
neat-letter c [] n t = clash t refl
neat-letter c (b ∷ []) n t = record { few = omega arith; none = rw (eqb-true b c t, ne_eqb c 13 n) }
neat-letter c (b ∷ d ∷ bs) n t = clash t refl

fields-fine : (fs : List (List ℕ)) → (fields_say fs ≡ malformed) ⊎ Fine 81 fs
unfolding fields_say
fields-fine [] = inl refl
fields-fine (f ∷ fs) =
    by-test (is_letter 70 f)
    (λ t. rw t (⊎_elim (λ q. inl q) (λ r. inr (fine-more 79 1 f fs (neat-letter 70 f (λ z. omega arith) t) r)) (command-fine fs)))
    (λ t.
    rw t
    (by-test (is_letter 83 f)
    (λ u. rw u (⊎_elim (λ q. inl q) (λ r. inr (fine-more 79 1 f fs (neat-letter 83 f (λ z. omega arith) u) r)) (sample-fine fs)))
    (λ u. inl (rw u))))

-- ---- the two rows that are implied

-- The fields of a line that is read: 80 bytes at most, and no carriage return.
pub line-fine : (line : List ℕ) → (fields_say (fields_of line) ≡ malformed) ⊎ ((length line ≤ 80) × (lacks 13 line ≡ true))
line-fine line =
    ⊎_elim
    (λ q. inl q)
    (λ r. inr (omega (arith, fields-spread line, r.small), sym (fields-clean line) ∙ r.none))
    (fields-fine (fields_of line))

-- The rows for a carriage return and for more than 128 bytes change no answer.
pub rows-implied : (line : List ℕ) → read_entry line ≡ fields_say (fields_of line)
unfolding read_entry
rows-implied line =
    ⊎_elim
    (λ q. rw q (by-test (ltb 128 (length line)) (λ t. rw t) (λ t. rw t (by-test (lacks 13 line) (λ u. rw u) (λ u. rw u)))))
    (λ r. rw (le-ltb 128 (length line) (omega (arith, r.0)), r.1))
    (line-fine line)

-- The longest line that is not malformed has 80 bytes.
pub longest : (line : List ℕ) → (read_entry line ≡ malformed) ⊎ (length line ≤ 80)
longest line = rw (rows-implied line) (⊎_elim (λ q. inl q) (λ r. inr r.0) (line-fine line))

-- All lines over 128 bytes say the same.
pub overlong : (line : List ℕ) → 128 < length line → read_entry line ≡ malformed
unfolding read_entry
overlong line h = rw (lt-ltb 128 (length line) h)

-- ---- the steps of the reader

-- A line that has no letter and a tab behind it.
two-bytes : (a b : ℕ) (fs : List (List ℕ)) → fields_say (longer a (longer b fs)) ≡ malformed
unfolding fields_say
two-bytes a b [] = refl
two-bytes a b (f ∷ fs) = refl

no-tab : (line : List ℕ) → (get_or line 1 9 ≡ 9 → ⊥) → fields_say (fields_of line) ≡ malformed
unfolding fields_of fields_say
no-tab [] n = refl
no-tab (a ∷ []) n = absurd (n refl)
no-tab (a ∷ b ∷ bs) n =
    by-test (eqb a 9) (λ t. rw t) (λ t. rw (t, ne_eqb b 9 n) (two-bytes a b (fields_of bs)))

one-byte : (line : List ℕ) → length line < 2 → fields_say (fields_of line) ≡ malformed
unfolding fields_of fields_say read_command read_sample
one-byte [] h = refl
one-byte (a ∷ []) h =
    by-test (eqb a 9) (λ t. rw t)
    (λ t. rw t (by-test (eqb a 70) (λ u. rw u) (λ u. rw u (by-test (eqb a 83) (λ w. rw w) (λ w. rw w)))))
one-byte (a ∷ b ∷ bs) h = absurd (omega arith)

-- A letter and a tab, and what follows them.
letter-tab : (a : ℕ) (bs : List ℕ)
    → fields_say (fields_of (a ∷ 9 ∷ bs)) ≡ cond (eqb a 70) (read_command (fields_of bs)) (cond (eqb a 83) (read_sample (fields_of bs)) malformed)
unfolding fields_of fields_say
letter-tab a bs = by-test (eqb a 9) (λ t. rw (t, eqb-true a 9 t)) (λ t. rw t)

pub line-short : (line : List ℕ) → length line < 2 → read_entry line ≡ malformed
line-short line h = rows-implied line ∙ one-byte line h

pub line-other : (line : List ℕ) → 1 < length line → (get_or line 1 0 ≡ 9 → ⊥) → read_entry line ≡ malformed
line-other [] h n = absurd (omega arith)
line-other (a ∷ []) h n = absurd (omega arith)
line-other (a ∷ b ∷ bs) h n = rows-implied (a ∷ b ∷ bs) ∙ no-tab (a ∷ b ∷ bs) n

pub line-letter : (line : List ℕ) → 1 < length line → get_or line 1 0 ≡ 9
    → read_entry line ≡ cond (eqb (get_or line 0 0) 70) (read_command (left line 2)) (cond (eqb (get_or line 0 0) 83) (read_sample (left line 2)) malformed)
line-letter [] h e = absurd (omega arith)
line-letter (a ∷ []) h e = absurd (omega arith)
line-letter (a ∷ b ∷ bs) h e =
    rows-implied (a ∷ b ∷ bs)
    ∙ ap (λ (c : ℕ). fields_say (fields_of (a ∷ c ∷ bs))) e
    ∙ letter-tab a bs
    ∙ ap (λ (fs : List (List ℕ)). cond (eqb a 70) (read_command fs) (cond (eqb a 83) (read_sample fs) malformed)) (sym (left-some (a ∷ b ∷ bs) 2 (omega arith)))

-- A field f at a place of the line, where the command is to be read, and a tab behind it.
pub command-over : (line : List ℕ) (at : ℕ) (f : List ℕ) → f ≡ field_at line at → at ≤ length line → length f < length line - at
    → read_command (left line at) ≡ malformed
unfolding read_command
command-over line at f e h l =
    let k : at + length f + 1 ≤ length line = omega arith in
    ap read_command (left-next line at f e h ∙ ap (λ (fs : List (List ℕ)). f ∷ fs) (left-next line (at + length f + 1) _ refl k))

-- The only field is a number.
pub command-read : (f : List ℕ) (v : ℕ) → read_number f ≡ Some v → read_command (f ∷ []) ≡ command v
unfolding read_command
command-read f v e = rw e

-- A field where a cell is to be read.
module _ (current : ℤ) (t1 t2 k : ℕ) (cells : List MilliVolts) (f : List ℕ) (fs : List (List ℕ)) where
  pub cell-over : 10 ≤ k → cells_from current t1 t2 k cells (f ∷ fs) ≡ malformed
  unfolding cells_from
  cell-over h = rw (le-ltb k 10 h)

  pub cell-none : k < 10 → read_number f ≡ None → cells_from current t1 t2 k cells (f ∷ fs) ≡ malformed
  unfolding cells_from
  cell-none h e = rw (lt-ltb k 10 h, e)

  pub cell-next : (v : ℕ) → k < 10 → read_number f ≡ Some v
      → cells_from current t1 t2 k cells (f ∷ fs) ≡ cells_from current t1 t2 (k + 1) (set cells k (record { 0 = v })) fs
  unfolding cells_from
  cell-next v h e = rw (lt-ltb k 10 h, e, add-one)
