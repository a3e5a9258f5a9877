-- Computed cases: each row by itself, both sides of each limit, and the lowest number where several rows apply.
-- Assumes nothing.
use Rattle.std.specs.Prelude.{◌≡◌, refl, List, [], ◌∷◌, map, ℕ, pos}
use Rattle.laws.specs.Each.{each_to}
use Rattle.page_words.specs.Ranges.{within}
use Rattle.refusals.specs.Answers.{answer_of}
use Rattle.refusals.specs.Refusals.{answer}
use Rattle.sample.specs.Cases.{below_zero, sampled}
use Rattle.sample.specs.declared.Extremes.{Extremes}
use Rattle.sample.specs.declared.Sample.{Sample}
use Rattle.pack_refusals.specs.Samples.{cells_fit, sample_refusals, sample_verdict, temperatures_verdict, command_refusals, command_verdict, kept_cell, trimmed}
use Rattle.pack_refusals.specs.SampleLaws.{verdict_by}

-- The numbers that a pack of n cells answers to some samples; 0 where nothing is refused.
abbrev numbers : ℕ → List Sample → List ℕ
numbers n ss = map (λ s. (answer_of (sample_verdict n s)).number) ss

-- A sample of two cells; the third and the tenth entry are no cells.
abbrev two : ℕ → ℕ → ℕ → ℕ → Sample
two a b t1 t2 = sampled 2 (a ∷ b ∷ 65535 ∷ 0 ∷ 0 ∷ 0 ∷ 0 ∷ 0 ∷ 0 ∷ 65535 ∷ []) (below_zero 32768) t1 t2

-- "Cell 6000 taken, 6001 gives 10. Temperature 2000 and 4500 taken, 1999 and 4501 give 11": each cell and both temperatures.
pub limits
    : numbers 2
    (two 6000 6000 2000 4500
    ∷ two 0 0 4500 2000
    ∷ two 6001 6000 2980 2980
    ∷ two 6000 6001 2980 2980
    ∷ two 4000 4000 1999 2980
    ∷ two 4000 4000 4501 2980
    ∷ two 4000 4000 2980 1999
    ∷ two 4000 4000 2980 4501
    ∷ [])
    ≡ (0 ∷ 0 ∷ 10 ∷ 10 ∷ 11 ∷ 11 ∷ 11 ∷ 11 ∷ [])
unfolding sample_verdict sample_refusals cells_fit within
limits = refl

-- A sample of `count` cells, of which the last of ten is too high, and with a temperature that is too low.
abbrev bad : ℕ → ℕ → Sample
bad count t1 = sampled count (4000 ∷ 4000 ∷ 4000 ∷ 4000 ∷ 4000 ∷ 4000 ∷ 4000 ∷ 4000 ∷ 4000 ∷ 6001 ∷ []) (pos 0) t1 2980

-- The lowest number where several rows apply: 9 before 10 before 11.
pub lowest : numbers 10 (bad 9 1999 ∷ bad 11 1999 ∷ bad 10 1999 ∷ bad 10 2980 ∷ []) ≡ (9 ∷ 9 ∷ 10 ∷ 10 ∷ [])
unfolding sample_verdict sample_refusals cells_fit within
lowest = refl

-- "Sample hasn't exactly n cells", n from 2 to 10, for counts from 0 to 11: entry n of each row alone is taken.
abbrev counts : ℕ → List ℕ
counts n =
    numbers n
    (map (λ count. sampled count (4000 ∷ 4000 ∷ 4000 ∷ 4000 ∷ 4000 ∷ 4000 ∷ 4000 ∷ 4000 ∷ 4000 ∷ 4000 ∷ []) (pos 0) 2980 2980)
    (0 ∷ 1 ∷ 2 ∷ 3 ∷ 4 ∷ 5 ∷ 6 ∷ 7 ∷ 8 ∷ 9 ∷ 10 ∷ 11 ∷ []))

pub exact
    : map counts (2 ∷ 3 ∷ 4 ∷ 5 ∷ 6 ∷ 7 ∷ 8 ∷ 9 ∷ 10 ∷ [])
    ≡ ((9 ∷ 9 ∷ 0 ∷ 9 ∷ 9 ∷ 9 ∷ 9 ∷ 9 ∷ 9 ∷ 9 ∷ 9 ∷ 9 ∷ [])
    ∷ (9 ∷ 9 ∷ 9 ∷ 0 ∷ 9 ∷ 9 ∷ 9 ∷ 9 ∷ 9 ∷ 9 ∷ 9 ∷ 9 ∷ [])
    ∷ (9 ∷ 9 ∷ 9 ∷ 9 ∷ 0 ∷ 9 ∷ 9 ∷ 9 ∷ 9 ∷ 9 ∷ 9 ∷ 9 ∷ [])
    ∷ (9 ∷ 9 ∷ 9 ∷ 9 ∷ 9 ∷ 0 ∷ 9 ∷ 9 ∷ 9 ∷ 9 ∷ 9 ∷ 9 ∷ [])
    ∷ (9 ∷ 9 ∷ 9 ∷ 9 ∷ 9 ∷ 9 ∷ 0 ∷ 9 ∷ 9 ∷ 9 ∷ 9 ∷ 9 ∷ [])
    ∷ (9 ∷ 9 ∷ 9 ∷ 9 ∷ 9 ∷ 9 ∷ 9 ∷ 0 ∷ 9 ∷ 9 ∷ 9 ∷ 9 ∷ [])
    ∷ (9 ∷ 9 ∷ 9 ∷ 9 ∷ 9 ∷ 9 ∷ 9 ∷ 9 ∷ 0 ∷ 9 ∷ 9 ∷ 9 ∷ [])
    ∷ (9 ∷ 9 ∷ 9 ∷ 9 ∷ 9 ∷ 9 ∷ 9 ∷ 9 ∷ 9 ∷ 0 ∷ 9 ∷ 9 ∷ [])
    ∷ (9 ∷ 9 ∷ 9 ∷ 9 ∷ 9 ∷ 9 ∷ 9 ∷ 9 ∷ 9 ∷ 9 ∷ 0 ∷ 9 ∷ [])
    ∷ [])
unfolding sample_verdict sample_refusals cells_fit within
exact = refl

-- A pack without a page refuses every count with 9, that of no cell too.
pub no-page : counts 0 ≡ (9 ∷ 9 ∷ 9 ∷ 9 ∷ 9 ∷ 9 ∷ 9 ∷ 9 ∷ 9 ∷ 9 ∷ 9 ∷ 9 ∷ [])
unfolding sample_verdict sample_refusals cells_fit within
no-page = refl

-- Switch commands: 0 to 3 are taken, and 256 is not 0. Every refusal of these rows names word 0.
pub commands
    : map (λ c. answer_of (command_verdict c)) (0 ∷ 1 ∷ 2 ∷ 3 ∷ 4 ∷ 256 ∷ 65535 ∷ [])
    ≡ (answer 0 0 ∷ answer 0 0 ∷ answer 0 0 ∷ answer 0 0 ∷ answer 16 0 ∷ answer 16 0 ∷ answer 16 0 ∷ [])
unfolding command_verdict command_refusals
commands = refl

pub word-0
    : map (λ s. answer_of (sample_verdict 2 s)) (bad 3 2980 ∷ two 6001 4000 2980 2980 ∷ two 4000 4000 1999 2980 ∷ [])
    ≡ (answer 9 0 ∷ answer 10 0 ∷ answer 11 0 ∷ [])
unfolding sample_verdict sample_refusals cells_fit within
word-0 = refl

-- Of an accepted sample the cells are kept, and 0 past them; all else is kept as it is.
pub kept : trimmed (two 4001 4002 2981 2992) ≡ sampled 2 (4001 ∷ 4002 ∷ 0 ∷ 0 ∷ 0 ∷ 0 ∷ 0 ∷ 0 ∷ 0 ∷ 0 ∷ []) (below_zero 32768) 2981 2992
unfolding trimmed each_to kept_cell
kept = refl

-- By the highest cell, as the code tries the rows: 6000 is asked of the highest alone, behind the count and before the temperatures.
abbrev between : ℕ → ℕ → Extremes
between low high =
    record {
      highest = record { number = record { 0 = 1 }; volts = record { 0 = high } };
      lowest = record { number = record { 0 = 2 }; volts = record { 0 = low } };
    }

pub by-highest
    : map (λ e. (answer_of (verdict_by e 2 (two 1 2 2000 4500))).number) (between 0 6000 ∷ between 6001 6000 ∷ between 0 6001 ∷ [])
    ∷ map (λ n. (answer_of (verdict_by (between 0 6001) n (two 1 2 1999 4500))).number) (0 ∷ 1 ∷ 2 ∷ 3 ∷ [])
    ∷ map (λ s. (answer_of (verdict_by (between 0 6000) 2 s)).number) (two 1 2 1999 4500 ∷ two 1 2 2000 4501 ∷ [])
    ∷ []
    ≡ (0 ∷ 0 ∷ 10 ∷ []) ∷ (9 ∷ 9 ∷ 10 ∷ 9 ∷ []) ∷ (11 ∷ 11 ∷ []) ∷ []
unfolding verdict_by temperatures_verdict within
by-highest = refl

-- The last row by itself, as the code tries it.
pub last_row
    : map answer_of
    (temperatures_verdict 2000 4500 ∷ temperatures_verdict 4500 2000 ∷ temperatures_verdict 1999 2980 ∷ temperatures_verdict 4501 2980
    ∷ temperatures_verdict 2980 1999 ∷ temperatures_verdict 2980 4501 ∷ [])
    ≡ (answer 0 0 ∷ answer 0 0 ∷ answer 11 0 ∷ answer 11 0 ∷ answer 11 0 ∷ answer 11 0 ∷ [])
unfolding temperatures_verdict within
last_row = refl
