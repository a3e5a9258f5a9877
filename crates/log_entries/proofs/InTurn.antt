-- The steps of an `S` line as the reader takes it, number by number.
-- Assumes nothing.
use Prim.Native.Nat.{ℕ, zero, suc, ◌+◌, ◌-◌, ◌<◌, ◌≤◌}
use Rattle.std.specs.Prelude.{◌≡◌, refl, Bool, true, false, ltb, ℤ, length, drop, set, get_or, replicate, Option, Some, None}
use Rattle.std.proofs.Common.{sym, ap, ◌∙◌, arith, lt-ltb, le-ltb, ltb-true, drop_of_length-le, drop-cons}
use mathlib.Core.List.{List, [], ◌∷◌}
use Rattle.std.proofs.Math.Numerals.{add-one}
use Rattle.laws.specs.Tests.{by-test, by-order, and-left}
use Rattle.laws.specs.Each.{each_to}
use Rattle.units.specs.declared.MilliVolts.{MilliVolts}
use Rattle.sample.specs.Cells.{no_volts}
use Rattle.text_numbers.specs.Numbers.{read_number}
use Rattle.text_numbers.specs.Signs.{with_sign, has_minus, past_minus, minus-field, minus-signed, plain-signed}
use Rattle.text_fields.specs.Fields.{field_at}
use Rattle.log_entries.specs.declared.Entry.{Entry}
use Rattle.log_entries.specs.Entry.{malformed, offer, if_signed, cells_from, second_from, first_from, read_sample}
use Rattle.log_entries.specs.Left.{left, left-none, left-next}
use Rattle.log_entries.proofs.Reading.{cell-over, cell-none, cell-next}
use Rattle.log_entries.specs.InTurn.{in_milli_volts, cells_of, read_numbers, behind, NoCell, cells_to}

millivolts-set : (vs : List ℕ) (k v : ℕ) → in_milli_volts (set vs k v) ≡ set (in_milli_volts vs) k (record { 0 = v })
millivolts-set [] k v = refl
millivolts-set (x ∷ vs) zero v = refl
millivolts-set (x ∷ vs) (suc k) v = ap (λ (l : List MilliVolts). record { 0 = x } ∷ l) (millivolts-set vs k v)

-- What is said for any current.
for-any : (s : Option ℤ) (says : ℤ → Entry) → ((z : ℤ) → says z ≡ malformed) → if_signed s says ≡ malformed
for-any (Some z) says h = h z
for-any None says h = refl

for-each : (s : Option ℤ) (says does : ℤ → Entry) → ((z : ℤ) → says z ≡ does z) → if_signed s says ≡ if_signed s does
for-each (Some z) says does h = h z
for-each None says does h = refl

module _ (below : Bool) (f : List ℕ) (fs : List (List ℕ)) where
  pub behind-over : (k : ℕ) (numbers : List ℕ) → 13 ≤ k → behind below k numbers (f ∷ fs) ≡ malformed
  unfolding behind
  behind-over zero numbers h = absurd (omega arith)
  behind-over (suc zero) numbers h = absurd (omega arith)
  behind-over (suc (suc zero)) numbers h = absurd (omega arith)
  behind-over (suc (suc (suc k))) numbers h = for-any (with_sign below (get_or numbers 0 0)) (λ z. cells_from z (get_or numbers 1 0) (get_or numbers 2 0) k (cells_of numbers) (f ∷ fs)) (λ z. cell-over z _ _ k _ f fs (omega arith))

  pub behind-none : (k : ℕ) (numbers : List ℕ) → k < 13 → read_number f ≡ None → behind below k numbers (f ∷ fs) ≡ malformed
  unfolding behind read_numbers first_from second_from
  behind-none zero numbers h e = rw e
  behind-none (suc zero) numbers h e = for-any (with_sign below (get_or numbers 0 0)) (λ z. first_from z (f ∷ fs)) (λ z. rw e)
  behind-none (suc (suc zero)) numbers h e = for-any (with_sign below (get_or numbers 0 0)) (λ z. second_from z (get_or numbers 1 0) (f ∷ fs)) (λ z. rw e)
  behind-none (suc (suc (suc k))) numbers h e = for-any (with_sign below (get_or numbers 0 0)) (λ z. cells_from z (get_or numbers 1 0) (get_or numbers 2 0) k (cells_of numbers) (f ∷ fs)) (λ z. cell-none z _ _ k _ f fs (omega arith) e)

  -- One number more, and no cell before the fourth.
  pub behind-next : (k v : ℕ) (numbers : List ℕ) → k < 13 → length numbers ≡ 13 → NoCell k numbers → read_number f ≡ Some v
      → (behind below k numbers (f ∷ fs) ≡ behind below (k + 1) (set numbers k v) fs) × NoCell (k + 1) (set numbers k v)
  unfolding behind read_numbers first_from second_from cells_of
  behind-next k v [] h l n e = absurd (omega arith)
  behind-next k v (a ∷ []) h l n e = absurd (omega arith)
  behind-next k v (a ∷ b ∷ []) h l n e = absurd (omega arith)
  behind-next zero v (a ∷ b ∷ d ∷ vs) h l n e = (rw e, λ q. n (omega arith))
  behind-next (suc zero) v (a ∷ b ∷ d ∷ vs) h l n e = (for-each (with_sign below a) (λ z. first_from z (f ∷ fs)) (λ z. second_from z v fs) (λ z. rw e), λ q. n (omega arith))
  behind-next (suc (suc zero)) v (a ∷ b ∷ d ∷ vs) h l n e = (for-each (with_sign below a) (λ z. second_from z b (f ∷ fs)) (λ z. cells_from z b v 0 (in_milli_volts vs) fs) (λ z. rw (e, n (omega arith))), λ q. n (omega arith))
  behind-next (suc (suc (suc k))) v (a ∷ b ∷ d ∷ vs) h l n e = (
    rw (add-one, millivolts-set vs k v)
        (for-each (with_sign below a) (λ z. cells_from z b d k (in_milli_volts vs) (f ∷ fs)) (λ z. cells_from z b d (suc k) (set (in_milli_volts vs) k (record { 0 = v })) fs) (λ z. rw add-one at (cell-next z b d k (in_milli_volts vs) f fs v (omega arith) e))),
    λ q. absurd (omega arith),
  )

-- The line ends behind too few numbers, or behind the cells.
pub behind-few : (below : Bool) (k : ℕ) (numbers : List ℕ) → k < 3 → behind below k numbers [] ≡ malformed
unfolding behind read_numbers first_from second_from
behind-few below zero numbers h = refl
behind-few below (suc zero) numbers h = for-any (with_sign below (get_or numbers 0 0)) (λ z. first_from z []) (λ z. refl)
behind-few below (suc (suc zero)) numbers h = for-any (with_sign below (get_or numbers 0 0)) (λ z. second_from z (get_or numbers 1 0) []) (λ z. refl)
behind-few below (suc (suc (suc k))) numbers h = absurd (omega arith)

pub behind-all : (below : Bool) (k : ℕ) (numbers : List ℕ) → 3 ≤ k
    → behind below k numbers [] ≡ if_signed (with_sign below (get_or numbers 0 0)) (λ current. offer current (get_or numbers 1 0) (get_or numbers 2 0) (k - 3) (cells_of numbers))
unfolding behind cells_from
behind-all below zero numbers h = absurd (omega arith)
behind-all below (suc zero) numbers h = absurd (omega arith)
behind-all below (suc (suc zero)) numbers h = absurd (omega arith)
behind-all below (suc (suc (suc k))) numbers h =
    let e : suc (suc (suc k)) - 3 ≡ k = omega arith in rw e

-- The fields from a place on, read behind the minus that may stand there.
pub sample-start : (line : List ℕ) (from : ℕ)
    → read_sample (left line from) ≡ read_numbers (ltb from (past_minus line from)) (left line (past_minus line from))
unfolding read_sample read_numbers past_minus
sample-start line from =
    by-test (has_minus line from)
    (λ t.
    let h = ltb-true from (length line) (and-left _ _ t) in
    let f = field_at line from in
    let g = field_at line (from + 1) in
    let e : f ≡ 45 ∷ g = minus-field line from t in
    let there : from + length f + 1 ≡ from + 1 + length g + 1 = rw e (omega arith) in
    rw (t, lt-ltb from (from + 1) (omega arith))
    (ap read_sample (left-next line from f refl (omega arith))
    ∙ ap (λ (s : Option ℤ). if_signed s (λ current. first_from current (left line (from + length f + 1)))) (minus-signed line from t)
    ∙ ap (λ (j : ℕ). read_numbers true (g ∷ left line j)) there
    ∙ sym (ap (read_numbers true) (left-next line (from + 1) g refl (omega arith)))))
    (λ t.
    rw (t, le-ltb from from (omega arith))
    (by-order (length line) from
    (λ h. ap read_sample (left-none line from h) ∙ sym (ap (read_numbers false) (left-none line from h)))
    (λ h.
    let f = field_at line from in
    ap read_sample (left-next line from f refl h)
    ∙ ap (λ (s : Option ℤ). if_signed s (λ current. first_from current (left line (from + length f + 1)))) (plain-signed line from t)
    ∙ sym (ap (read_numbers false) (left-next line from f refl h)))))

pub ten-cells : (ns : List ℕ) → length ns ≡ 13 → cells_to ns 10 (replicate 10 no_volts) ≡ cells_of ns
unfolding cells_of each_to
ten-cells ns l =
    rw
    (drop-cons ns 3 0 (omega arith), drop-cons ns 4 0 (omega arith), drop-cons ns 5 0 (omega arith), drop-cons ns 6 0 (omega arith))
    (rw
    (drop-cons ns 7 0 (omega arith), drop-cons ns 8 0 (omega arith), drop-cons ns 9 0 (omega arith), drop-cons ns 10 0 (omega arith))
    (rw (drop-cons ns 11 0 (omega arith), drop-cons ns 12 0 (omega arith), none)))
  where
    none : drop 13 ns ≡ []
    none = drop_of_length-le ns {i = 13} (omega (arith, l))
