-- Computed cases: the bands of clear and of raised protections and of some with a run, the ends of each band, and what is kept.
-- Assumes nothing.
use Rattle.std.specs.Prelude.{◌≡◌, refl, Bool, true, false, List, [], ◌∷◌, ◌++◌, ℕ, ℤ, pos, replicate}
use Rattle.laws.specs.Bits.{has_bit, with_bit, with_bit_if}
use Rattle.laws.specs.Each.{each_to}
use Rattle.laws.specs.Words.{bits_of, any_of}
use Rattle.laws.specs.Latest.{next_run}
use Rattle.units.specs.Levels.{level}
use Rattle.protections.specs.declared.Direction.TheVariants.{Above}
use Rattle.protections.specs.Table.{row_at, table, protections}
use Rattle.sample.specs.declared.Sample.{Sample}
use Rattle.sample.specs.Cells.{best_of, extremes_of}
use Rattle.sample.specs.Cases.{below_zero, sampled}
use Rattle.guard.specs.declared.rule.Alarm.{Alarm}
use Rattle.guard.specs.declared.rule.Alarm.TheVariants.{Clear, Raised}
use Rattle.guard.specs.Cases.{limited, standing, mixed_limits}
use Rattle.guard.specs.Steps.{step_one, step_at, step_all}
use Rattle.guard_raised.specs.Words.{raised_word, blocks_one, blocks_any}
use Rattle.guard_watch.specs.declared.Band.{Band}
use Rattle.guard_watch.specs.Bands.{inside_at, is_calm, nowhere, narrowed, narrowed_at, anywhere, bands_to}
use Rattle.guard_watch.specs.Watch.{blocked_word, watch_of, guarded_by}

abbrev from : ℤ → ℤ → Band
from a b = record { above = level a; below = level b }

-- Nothing is below the first of these, and nothing above the second.
abbrev floor : ℤ
floor = below_zero 100000

abbrev ceiling : ℤ
ceiling = pos 100000

abbrev bands_with : List Alarm → List Band
bands_with alarms = bands_to (standing mixed_limits alarms) protections

abbrev some_raised : List Alarm
some_raised = Clear 0 ∷ Clear 0 ∷ Clear 0 ∷ Raised 0 ∷ Clear 0 ∷ Raised 0 ∷ Clear 0 ∷ Clear 2 ∷ Clear 0 ∷ Raised 0 ∷ []

-- All clear; all raised; some of each, and the second thermistor with a run.
pub bands
    : bands_with (replicate 10 (Clear 0)) ∷ bands_with (replicate 10 (Raised 0)) ∷ bands_with some_raised ∷ []
    ≡ (from floor (pos 4250) ∷ from (pos 3000) ceiling ∷ from (below_zero 5000) (pos 5000) ∷ from (pos 2730) (pos 3200) ∷ from floor (pos 3300) ∷ [])
    ∷ (from (pos 4150) ceiling ∷ from floor (pos 3200) ∷ from (pos 100) (below_zero 100) ∷ from (pos 3200) (pos 2680) ∷ from (pos 3200) ceiling ∷ [])
    ∷ (from floor (pos 4250) ∷ from (pos 3000) ceiling ∷ from (below_zero 6000) (below_zero 100) ∷ from (pos 3100) (pos 2680) ∷ nowhere ∷ [])
    ∷ []
unfolding bands_to narrowed_at narrowed row_at table
bands = refl

-- One protection leaves nothing of a band if it has a run, or moves without one.
abbrev leaves : ℕ → ℕ → Alarm → Band
leaves n m a = narrowed anywhere Above (record { limits = limited (pos 4250) (pos 4150) n m 1; alarm = a })

pub Leaves-none
    : leaves 1 1 (Clear 0) ∷ leaves 2 2 (Clear 1) ∷ leaves 0 1 (Clear 0) ∷ leaves 1 1 (Raised 0) ∷ leaves 2 2 (Raised 1) ∷ leaves 1 0 (Raised 0) ∷ []
    ≡ from floor (pos 4250) ∷ nowhere ∷ nowhere ∷ from (pos 4150) ceiling ∷ nowhere ∷ nowhere ∷ []
unfolding narrowed
Leaves-none = refl

-- Two cells, a current and two temperatures, held against the bands of all clear ones.
abbrev calm_at : ℕ → ℕ → ℤ → ℕ → ℕ → Bool
calm_at low high current t1 t2 =
    let s : Sample = sampled 2 (low ∷ high ∷ 0 ∷ 0 ∷ 0 ∷ 0 ∷ 0 ∷ 0 ∷ 0 ∷ 0 ∷ []) current t1 t2 in
    is_calm (bands_with (replicate 10 (Clear 0))) (extremes_of s.cells s.count) s

-- The ends of each band, and one past each end.
pub ends
    : calm_at 3001 4249 (pos 4999) 3199 3299 ∷ calm_at 3001 4249 (below_zero 4999) 2731 3299
    ∷ calm_at 3000 4249 (pos 4999) 3199 3299 ∷ calm_at 3001 4250 (pos 4999) 3199 3299 ∷ calm_at 3001 4249 (pos 5000) 3199 3299
    ∷ calm_at 3001 4249 (below_zero 5000) 3199 3299 ∷ calm_at 3001 4249 (pos 4999) 3200 3299 ∷ calm_at 3001 4249 (pos 4999) 2730 3299
    ∷ calm_at 3001 4249 (pos 4999) 3199 3300 ∷ []
    ≡ true ∷ true ∷ false ∷ false ∷ false ∷ false ∷ false ∷ false ∷ false ∷ []
unfolding is_calm inside_at bands_to narrowed_at narrowed row_at table extremes_of best_of
ends = refl

-- Of the alarms of all protections, the words that are kept: who is raised, and which switches they block.
abbrev words_of : List Alarm → List ℕ
words_of alarms = let w = watch_of (standing mixed_limits alarms) in w.raised ∷ w.blocked ∷ []

abbrev only : ℕ → List Alarm
only p = replicate p (Clear 0) ++ Raised 0 ∷ replicate 9 (Clear 0)

pub words
    : words_of (replicate 10 (Clear 0)) ∷ words_of (only 0) ∷ words_of (only 1) ∷ words_of (only 7) ∷ words_of some_raised ∷ []
    ≡ (0 ∷ 0 ∷ []) ∷ (1 ∷ 1 ∷ []) ∷ (2 ∷ 2 ∷ []) ∷ (128 ∷ 3 ∷ []) ∷ (552 ∷ 3 ∷ []) ∷ []
unfolding watch_of blocked_word raised_word blocks_any blocks_one bits_of any_of with_bit_if with_bit has_bit
words = refl

-- One sample on: over voltage goes from a run of 2 to raised, and what is kept is that of the protections then. The cold ones, one raised and one
-- clear, bound temperature 1.
pub one_on
    : let s : Sample = sampled 2 (3100 ∷ 4250 ∷ 0 ∷ 0 ∷ 0 ∷ 0 ∷ 0 ∷ 0 ∷ 0 ∷ 0 ∷ []) (pos 0) 2700 2980 in
    guarded_by (extremes_of s.cells s.count) s (standing mixed_limits (Clear 2 ∷ replicate 7 (Clear 0) ++ Raised 0 ∷ Clear 0 ∷ []))
    ≡ record {
      protections = standing mixed_limits (Raised 0 ∷ replicate 7 (Clear 0) ++ Raised 0 ∷ Clear 0 ∷ []);
      watch = record {
        bands = from (pos 4150) ceiling ∷ from (pos 3000) ceiling ∷ from (below_zero 5000) (pos 5000) ∷ from (pos 2630) (pos 2780) ∷ from floor (pos 3300) ∷ [];
        raised = 257;
        blocked = 1;
      };
    }
unfolding guarded_by watch_of blocked_word raised_word blocks_any blocks_one bits_of any_of with_bit_if with_bit has_bit bands_to narrowed_at narrowed
    step_all step_one step_at each_to next_run row_at table extremes_of best_of
one_on = refl
