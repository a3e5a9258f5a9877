-- Offered samples and switch commands: document 01's refusals 9, 10, 11 and 16, and what is kept of an accepted sample.
-- Assumes nothing.
use Rattle.std.specs.Prelude.{◌≡◌, refl, Bool, true, false, cond, ◌&&◌, List, [], ◌∷◌, ℕ, zero, suc, ◌<◌, leb, ltb, eqb, get_or}
use Rattle.std.proofs.Common.{arith}
use Rattle.units.specs.declared.MilliVolts.{MilliVolts}
use Rattle.laws.specs.Each.{each_to}
use Rattle.page_words.specs.Ranges.{within}
use Rattle.refusals.specs.Refusals.{Refusal, refusal, whole, first}
use Rattle.refusals.specs.Verdicts.{Verdict, Accepted, Refused}
use Rattle.units.specs.Cells.{ten_at_most}
use Rattle.sample.specs.Cells.{no_volts}
use Rattle.sample.specs.declared.Sample.{Sample}

-- "A cell over 6000" is refused.
abbrev pub cell_fits : MilliVolts → Bool
cell_fits v = leb v.0 6000

-- Each of the first k entries is a cell that fits.
unfoldable pub cells_fit : List MilliVolts → ℕ → Bool
cells_fit cells zero = true
cells_fit cells (suc k) = cells_fit cells k && cell_fits (get_or cells k no_volts)

-- "A temperature outside 2000..4500" is refused.
abbrev pub temperature_fits : ℕ → Bool
temperature_fits t = within 2000 4500 t

-- "Sample hasn't exactly n cells" is refused. THE ONE EXCEPTION from document 01's rows: a pack without a page has no n. Its n reads
-- as 0, and no sample is exact, that of no cell neither.
abbrev pub exact_count : ℕ → ℕ → Bool
exact_count zero count = false
exact_count (suc m) count = eqb count (suc m)

-- The rows for an offered sample, in the order of their numbers.
unfoldable pub sample_refusals : ℕ → Sample → List Refusal
sample_refusals n s =
    refusal 9 (whole (exact_count n s.count))
    ∷ refusal 10 (whole (cells_fit s.cells (ten_at_most s.count)))
    ∷ refusal 11 (whole (temperature_fits s.t1.0 && temperature_fits s.t2.0))
    ∷ []

unfoldable pub sample_verdict : ℕ → Sample → Verdict
sample_verdict n s = first Refused Accepted (sample_refusals n s)

-- The last row by itself.
unfoldable pub temperatures_verdict : ℕ → ℕ → Verdict
temperatures_verdict t1 t2 = cond (temperature_fits t1 && temperature_fits t2) Accepted (Refused 11 0)

-- The row for a switch command: "switch command above 3". It speaks of no page: a pack without one remembers a command too.
unfoldable pub command_refusals : ℕ → List Refusal
command_refusals c = refusal 16 (whole (leb c 3)) ∷ []

unfoldable pub command_verdict : ℕ → Verdict
command_verdict c = first Refused Accepted (command_refusals c)

-- ---- what is kept of an accepted sample

-- Entries past the count are no cells: they are kept as 0.
unfoldable pub kept_cell : ℕ → ℕ → MilliVolts → MilliVolts
kept_cell count i v = cond (ltb i count) v no_volts

unfoldable pub trimmed : Sample → Sample
trimmed s =
    record {
      count = s.count;
      cells = each_to no_volts (kept_cell s.count) 10 s.cells;
      current = s.current;
      t1 = s.t1;
      t2 = s.t2;
    }

-- ---- what row 9 says of a pack with a page

-- With a page the row is document 01's, word for word.
pub exact-count : (n count : ℕ) → 0 < n → exact_count n count ≡ eqb count n
exact-count zero count h = absurd (omega arith)
exact-count (suc m) count h = refl
