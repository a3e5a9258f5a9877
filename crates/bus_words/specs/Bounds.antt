-- The words fit 16 bits: a pack keeps accepted samples only, of ten cells of 6000 mV at most, and so it is with n × word 7.
-- Assumes nothing.
use Rattle.std.specs.Prelude.{◌≡◌, true, List, [], ◌∷◌, ℕ, zero, suc, ◌*◌, ◌≤◌, ◌<◌, eqb, ltb, length, get_or}
use Rattle.std.proofs.Common.{sym, ap, ⊎_elim, not-suc-le-zero, eq-or-lt_of_le, le_of_suc-le-suc, mul-le-mul_right, arith, get_or-set_same, get_or-set_other, eqb-true, ltb-true, ltb-false, leb-true}
use Rattle.std.proofs.Math.Seq.{set_out}
use Rattle.std.proofs.lemmas.Bool.{eqb-false}
use Rattle.laws.specs.Tests.{by-test, clash, and-left, and-right}
use Rattle.laws.specs.Each.{each_to}
use Rattle.units.specs.declared.MilliVolts.{MilliVolts}
use Rattle.sample.specs.declared.Sample.{Sample}
use Rattle.units.specs.Cells.{ten_at_most, ten-most}
use Rattle.sample.specs.Cells.{no_volts}
use Rattle.pack_refusals.specs.Samples.{cell_fits, cells_fit, exact_count, kept_cell, trimmed, sample_refusals, sample_verdict, command_verdict}
use Rattle.page_settings.specs.Good.{Good}
use Rattle.pack_state.specs.declared.Pack.{Pack}
use Rattle.pack.specs.Events.{Event, offer, command, accepts, with_event, past_of}
use Rattle.pack_state.specs.State.{latest_after, state_after}
use Rattle.pack.specs.Kept.{Kept, page_of, pack_after}
use Rattle.pack.specs.Calls.{page-good, kept-watched}
use Rattle.bus_words.specs.Words.{sum_to, sum_word, Bounded}

-- Cells that fit are 6000 mV at most.
fits-most : (cells : List MilliVolts) (k : ℕ) → cells_fit cells k ≡ true → (i : ℕ) → i < k → (get_or cells i no_volts).0 ≤ 6000
unfolding cells_fit
fits-most cells zero e i h = absurd (not-suc-le-zero h)
fits-most cells (suc k) e i h =
    ⊎_elim
    (λ (q : i ≡ k). rw q (leb-true (get_or cells k no_volts).0 6000 (and-right (cells_fit cells k) (cell_fits (get_or cells k no_volts)) e)))
    (λ (q : i < k). fits-most cells k (and-left (cells_fit cells k) (cell_fits (get_or cells k no_volts)) e) i q)
    (eq-or-lt_of_le (le_of_suc-le-suc h))

-- What is kept of such a cell is 6000 mV at most too.
kept-cell : (count m : ℕ) (v : MilliVolts) → v.0 ≤ 6000 → (kept_cell count m v).0 ≤ 6000
unfolding kept_cell
kept-cell count m v h = by-test (ltb m count) (λ t. rw t h) (λ t. rw t (omega arith))

kept-most : (count : ℕ) (cells : List MilliVolts) (i : ℕ) → (get_or cells i no_volts).0 ≤ 6000 → (m : ℕ)
    → (get_or (each_to no_volts (kept_cell count) m cells) i no_volts).0 ≤ 6000
unfolding each_to
kept-most count cells i h zero = h
kept-most count cells i h (suc m) =
    let old : List MilliVolts = each_to no_volts (kept_cell count) m cells in
    let before : (get_or old i no_volts).0 ≤ 6000 = kept-most count cells i h m in
    by-test (eqb i m)
    (λ t.
    let same : i ≡ m = eqb-true i m t in
    let there : (get_or old m no_volts).0 ≡ (get_or old i no_volts).0 = ap (λ (j : ℕ). (get_or old j no_volts).0) (sym same) in
    by-test (ltb m (length old))
    (λ u. rw (same, get_or-set_same old m (kept_cell count m (get_or old m no_volts)) no_volts (ltb-true m (length old) u))
    (kept-cell count m (get_or old m no_volts) (omega arith)))
    (λ u. rw (set_out old m (kept_cell count m (get_or old m no_volts)) (ltb-false m (length old) u)) before))
    (λ t. rw (get_or-set_other old m i (kept_cell count m (get_or old m no_volts)) no_volts (eqb-false i m t)) before)

sum-most : (cells : List MilliVolts) (k : ℕ) → ((i : ℕ) → i < k → (get_or cells i no_volts).0 ≤ 6000) → sum_to cells k ≤ 6000 * k
unfolding sum_to
sum-most cells zero h = omega arith
sum-most cells (suc k) h =
    let a = sum-most cells k (λ i q. h i (omega arith)) in
    let b = h k (omega arith) in
    omega arith

-- The cells of an accepted sample fit.
accepted-fits : (n : ℕ) (s : Sample) → accepts (sample_verdict n s) ≡ true → cells_fit s.cells (ten_at_most s.count) ≡ true
unfolding sample_verdict sample_refusals
accepted-fits n s e =
    by-test (cells_fit s.cells (ten_at_most s.count))
    (λ t. t)
    (λ t. by-test (exact_count n s.count) (λ u. clash e (rw (u, t))) (λ u. clash e (rw u)))

trimmed-most : (n : ℕ) (s : Sample) → accepts (sample_verdict n s) ≡ true → sum_word (trimmed s) ≤ 60000
unfolding trimmed
trimmed-most n s e =
    let few = ten-most s.count in
    let sum = sum-most (trimmed s).cells (ten_at_most s.count)
    (λ i h. kept-most s.count s.cells i (fits-most s.cells (ten_at_most s.count) (accepted-fits n s e) i h) 10) in
    omega arith

-- The sum of the latest sample's cells, after any events.
pub latest-most : (n : ℕ) (es : List Event) → sum_word (latest_after (past_of n es).history) ≤ 60000
unfolding past_of with_event sum_to
latest-most n [] = omega arith
latest-most n (offer s ∷ es) =
    by-test (accepts (sample_verdict n s)) (λ t. rw t (trimmed-most n s t)) (λ t. rw t (latest-most n es))
latest-most n (command c ∷ es) =
    by-test (accepts (command_verdict c)) (λ t. rw t (latest-most n es)) (λ t. rw t (latest-most n es))

-- n × word 7.
pub voltage-most : (bytes : List ℕ) → (page_of bytes).rules.n * (page_of bytes).rules.voltage.0 ≤ 60000
voltage-most bytes =
    by-test (ltb 0 (page_of bytes).rules.n)
    (λ t.
    let good : Good (page_of bytes) = page-good bytes (ltb-true 0 (page_of bytes).rules.n t) in
    let most : (page_of bytes).rules.n * (page_of bytes).rules.voltage.0 ≤ 10 * (page_of bytes).rules.voltage.0 = mul-le-mul_right (page_of bytes).rules.voltage.0 good.n.1 in
    let cell = good.voltage.1 in
    omega arith)
    (λ t.
    let none : (page_of bytes).rules.n ≡ 0 = let h = ltb-false 0 (page_of bytes).rules.n t in omega arith in
    rw none (omega arith))

pub kept-bounded : (p : Pack) → Kept p → Bounded p
unfolding pack_after state_after
kept-bounded p k =
    record {
      sum = rw k.is (latest-most (page_of k.bytes).rules.n k.events);
      voltage = rw k.is (voltage-most k.bytes);
      watched = kept-watched p k;
    }
