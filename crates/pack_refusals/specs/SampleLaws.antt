-- The verdict by the highest cell, as the code finds it, and what the code needs of the verdicts: test by test, and by document 01's number
-- and word.
-- Assumes nothing.
use Rattle.std.specs.Prelude.{◌≡◌, refl, Bool, cond, ◌&&◌, List, ℕ, zero, suc, ◌≤◌, ◌<◌, leb, ltb, eqb, get_or}
use Rattle.std.proofs.Math.Path.{ap}
use Rattle.std.proofs.Common.{◌∙◌, arith}
use borrow.Author.Tests.{le-leb, lt-leb, eq-eqb, ne_eqb, leb-true, leb-false, ltb-true, ltb-false, eqb-true}
use Rattle.laws.specs.Tests.{by-test}
use Rattle.units.specs.declared.MilliVolts.{MilliVolts}
use Rattle.refusals.specs.Answers.{answer_of}
use Rattle.refusals.specs.Refusals.{given, first-map}
use Rattle.refusals.specs.Verdicts.{Verdict, Accepted, Refused}
use Rattle.units.specs.Cells.{ten_at_most}
use Rattle.sample.specs.Cells.{no_volts, found_at, larger, best_of, highest, extremes_of}
use Rattle.sample.specs.declared.Extremes.{Extremes}
use Rattle.sample.specs.declared.Found.{Found}
use Rattle.sample.specs.declared.Sample.{Sample}
use Rattle.pack_refusals.specs.Samples.{cell_fits, cells_fit, exact_count, sample_refusals, sample_verdict, temperatures_verdict, command_refusals, command_verdict, exact-count}

-- The verdict as the code finds it, if e are the sample's highest and lowest cell: 6000 is asked of the highest alone.
unfoldable pub verdict_by : Extremes → ℕ → Sample → Verdict
verdict_by e n s =
    cond (exact_count n s.count) (cond (cell_fits e.highest.volts) (temperatures_verdict s.t1.0 s.t2.0) (Refused 10 0)) (Refused 9 0)

-- The larger of two fits if both do.
larger-fits : (a b : Found) → cell_fits (larger a b).volts ≡ (cell_fits a.volts && cell_fits b.volts)
larger-fits a b =
    by-test (ltb a.volts.0 b.volts.0)
    (λ t. rw t (above (ltb-true a.volts.0 b.volts.0 t)))
    (λ t. rw t (not-above (ltb-false a.volts.0 b.volts.0 t)))
  where
    above : a.volts.0 < b.volts.0 → cell_fits b.volts ≡ (cell_fits a.volts && cell_fits b.volts)
    above h =
        by-test (leb a.volts.0 6000)
        (λ t. rw t)
        (λ t. let q : 6000 < a.volts.0 = leb-false a.volts.0 6000 t in rw (t, lt-leb b.volts.0 6000 (omega arith)))

    not-above : b.volts.0 ≤ a.volts.0 → cell_fits a.volts ≡ (cell_fits a.volts && cell_fits b.volts)
    not-above h =
        by-test (leb a.volts.0 6000)
        (λ t. let q : a.volts.0 ≤ 6000 = leb-true a.volts.0 6000 t in rw (t, le-leb b.volts.0 6000 (omega arith)))
        (λ t. rw t)

-- The first n cells fit if the highest of them does.
pub highest-fits : (cells : List MilliVolts) (n : ℕ) → cell_fits (highest cells n).volts ≡ cells_fit cells n
unfolding cells_fit best_of
highest-fits cells zero = refl
highest-fits cells (suc zero) = refl
highest-fits cells (suc (suc k)) =
    larger-fits (highest cells (suc k)) (found_at cells (suc k))
    ∙ ap (λ (fit : Bool). fit && cell_fits (get_or cells (suc k) no_volts)) (highest-fits cells (suc k))

-- The verdict on a command.
module _ (c : ℕ) where
  pub command-fits : c ≤ 3 → command_verdict c ≡ Accepted
  unfolding command_verdict command_refusals
  command-fits h = rw (le-leb c 3 h)

  pub command-over : 3 < c → command_verdict c ≡ Refused 16 0
  unfolding command_verdict command_refusals
  command-over h = rw (lt-leb c 3 h)

  -- An accepted command is 3 at most.
  pub command-most : command_verdict c ≡ Accepted → c ≤ 3
  command-most e =
      by-test (leb c 3)
      (λ t. leb-true c 3 t)
      (λ t. absurd (let z : ◌≡◌ {A = ℕ} 0 1 = cc (e, command-over (leb-false c 3 t)) in omega arith))

  -- Its number and word are the table's.
  pub command-answer : (v : Verdict) → v ≡ command_verdict c → (v ≡ command_verdict c) × (answer_of v ≡ given (command_refusals c))
  unfolding command_verdict
  command-answer v e = (e, ap answer_of e ∙ first-map answer_of Refused Accepted (command_refusals c))

-- The verdict on a sample.
module _ (n : ℕ) (s : Sample) where
  pub sample-none : n ≡ 0 → sample_verdict n s ≡ Refused 9 0
  unfolding sample_verdict sample_refusals
  sample-none e = rw e

  -- Its number and word are the table's.
  pub sample-answer : (v : Verdict) → v ≡ sample_verdict n s → (v ≡ sample_verdict n s) × (answer_of v ≡ given (sample_refusals n s))
  unfolding sample_verdict
  sample-answer v e = (e, ap answer_of e ∙ first-map answer_of Refused Accepted (sample_refusals n s))

-- So the code's verdict is that of the table.
pub verdict-is : (n : ℕ) (s : Sample) → verdict_by (extremes_of s.cells s.count) n s ≡ sample_verdict n s
unfolding verdict_by sample_verdict sample_refusals extremes_of temperatures_verdict
verdict-is n s =
    rw (highest-fits s.cells (ten_at_most s.count))
    (by-test (exact_count n s.count)
    (λ t. rw t (by-test (cells_fit s.cells (ten_at_most s.count))
    (λ f. rw f)
    (λ f. rw f)))
    (λ t. rw t))

module _ (e : Extremes) (n : ℕ) (s : Sample) where
  pub by-none : n ≡ 0 → verdict_by e n s ≡ Refused 9 0
  unfolding verdict_by
  by-none z = rw z

  pub by-count : 0 < n → (s.count ≡ n → ⊥) → verdict_by e n s ≡ Refused 9 0
  unfolding verdict_by
  by-count h ne = rw (exact-count n s.count h, ne_eqb s.count n ne)

  pub by-cells : 0 < n → s.count ≡ n → 6000 < e.highest.volts.0 → verdict_by e n s ≡ Refused 10 0
  unfolding verdict_by
  by-cells h q over = rw (exact-count n s.count h, eq-eqb s.count n q, lt-leb e.highest.volts.0 6000 over)

  pub by-last : 0 < n → s.count ≡ n → e.highest.volts.0 ≤ 6000 → verdict_by e n s ≡ temperatures_verdict s.t1.0 s.t2.0
  unfolding verdict_by
  by-last h q fits = rw (exact-count n s.count h, eq-eqb s.count n q, le-leb e.highest.volts.0 6000 fits)

-- An accepted sample has exactly n cells.
pub sample-exact : (n : ℕ) (s : Sample) → sample_verdict n s ≡ Accepted → s.count ≡ n
unfolding sample_verdict sample_refusals
sample-exact zero s e = absurd (let z : ◌≡◌ {A = ℕ} 0 1 = cc in omega arith)
sample-exact (suc m) s e =
    by-test (eqb s.count (suc m))
    (λ t. eqb-true s.count (suc m) t)
    (λ t. absurd (refused-not (rw t at e)))
  where
    refused-not : Refused 9 0 ≡ Accepted → ⊥
    refused-not e = let z : ◌≡◌ {A = ℕ} 0 1 = cc in omega arith
