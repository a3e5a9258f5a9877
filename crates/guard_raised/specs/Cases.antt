-- Computed cases of the word of raised protections and of the blocked switches, which pin each bit.
-- Assumes nothing.
use Rattle.std.specs.Prelude.{◌≡◌, refl, Bool, true, false, List, [], ◌∷◌, ℕ, ℤ, pos}
use Rattle.laws.specs.Bits.{has_bit, with_bit, with_bit_if}
use Rattle.laws.specs.Each.{each_to}
use Rattle.laws.specs.Numbered.{list_from, list_of}
use Rattle.laws.specs.Words.{bits_of, any_of}
use Rattle.laws.specs.Latest.{next_run}
use Rattle.protections.specs.declared.Limits.{Limits}
use Rattle.protections.specs.Table.{row_at, table}
use Rattle.sample.specs.declared.Sample.{Sample}
use Rattle.sample.specs.Cells.{best_of, extremes_of}
use Rattle.sample.specs.Measure.{measure}
use Rattle.sample.specs.Cases.{below_zero, sampled}
use Rattle.guard.specs.declared.rule.Protection.{Protection}
use Rattle.guard.specs.Cases.{limited}
use Rattle.guard.specs.Steps.{raised, protection_after, protections_after, protections_stepped, step_one, step_at, step_all}
use Rattle.guard_raised.specs.Words.{raised_word, any_raised, raised_word_after, any_raised_after, blocks_one, blocks_any, blocks_after}

-- Over voltage blocks charge after two samples, the second thermistor discharge after one, over charge current only reports; cold blocks
-- charge from 2731 tenths down, discharge from 2631.
abbrev page : List Limits
page =
    limited (pos 4250) (pos 4150) 2 2 1
    ∷ limited (pos 0) (pos 1) 1 1 3
    ∷ limited (pos 900) (pos 800) 1 1 0
    ∷ limited (below_zero 32768) (pos 0) 1 1 3
    ∷ limited (below_zero 32768) (pos 0) 1 1 3
    ∷ limited (pos 3930) (pos 3000) 1 1 3
    ∷ limited (pos 3930) (pos 3000) 1 1 3
    ∷ limited (pos 3330) (pos 3000) 1 1 2
    ∷ limited (pos 2731) (pos 2832) 1 1 1
    ∷ limited (pos 2631) (pos 2732) 1 1 2
    ∷ []

abbrev seen : ℕ → ℤ → ℕ → Sample
seen cell current t2 = sampled 2 (4000 ∷ cell ∷ 0 ∷ 0 ∷ 0 ∷ 0 ∷ 0 ∷ 0 ∷ 0 ∷ 0 ∷ []) current 2980 t2

-- Temperature 1 of t1 tenths, and nothing else out of bounds.
abbrev chilled : ℕ → Sample
chilled t1 = sampled 2 (4000 ∷ 4000 ∷ 0 ∷ 0 ∷ 0 ∷ 0 ∷ 0 ∷ 0 ∷ 0 ∷ 0 ∷ []) (pos 0) t1 2980

-- The word, whether a protection is raised, and whether charge and discharge are blocked, after a history (the latest sample first).
pub record Said : Type 0 where
  pub word : ℕ
  pub any : Bool
  pub charge : Bool
  pub discharge : Bool

abbrev said : ℕ → Bool → Bool → Bool → Said
said w a c d = record { word = w; any = a; charge = c; discharge = d }

abbrev from_page : List Sample → Said
from_page h = said (raised_word_after page h) (any_raised_after page h) (blocks_after page h 0) (blocks_after page h 1)

-- The fifth has the protection of mask 0 alone: it is raised and blocks no switch. The seventh has two of mask 3. The last three have the
-- cold ones: none, the first, both.
pub words-history
    : (from_page [] ∷ from_page (seen 4260 (pos 0) 2980 ∷ []) ∷ from_page (seen 4260 (pos 0) 2980 ∷ seen 4260 (pos 0) 2980 ∷ [])
    ∷ from_page (seen 4000 (pos 0) 3330 ∷ []) ∷ from_page (seen 4000 (pos 900) 2980 ∷ [])
    ∷ from_page (seen 4260 (pos 900) 3330 ∷ seen 4250 (pos 0) 2980 ∷ []) ∷ from_page (seen 4000 (below_zero 32768) 2980 ∷ [])
    ∷ from_page (chilled 2732 ∷ []) ∷ from_page (chilled 2731 ∷ []) ∷ from_page (chilled 2631 ∷ []) ∷ [])
    ≡ (said 0 false false false ∷ said 0 false false false ∷ said 1 true true false ∷ said 128 true false true ∷ said 4 true false false ∷ said 133 true true true
    ∷ said 24 true true true ∷ said 0 false false false ∷ said 256 true true false ∷ said 768 true true true ∷ [])
unfolding raised_word_after any_raised_after blocks_after bits_of any_of with_bit_if with_bit has_bit raised row_at table measure extremes_of best_of
words-history = refl

-- The same by the steps of the whole array from the load.
abbrev from_array : List Protection → Said
from_array ps = said (raised_word ps) (any_raised ps) (blocks_any 0 ps) (blocks_any 1 ps)

pub words-steps
    : (from_array (protections_stepped page []) ∷ from_array (protections_stepped page (seen 4000 (pos 0) 3330 ∷ []))
    ∷ from_array (protections_stepped page (seen 4000 (pos 900) 2980 ∷ []))
    ∷ from_array (protections_stepped page (seen 4260 (pos 900) 3330 ∷ seen 4250 (pos 0) 2980 ∷ []))
    ∷ from_array (protections_stepped page (seen 4000 (below_zero 32768) 2980 ∷ [])) ∷ from_array (protections_stepped page (chilled 2631 ∷ [])) ∷ [])
    ≡ (said 0 false false false ∷ said 128 true false true ∷ said 4 true false false ∷ said 133 true true true ∷ said 24 true true true ∷ said 768 true true true ∷ [])
unfolding raised_word any_raised blocks_any blocks_one bits_of any_of with_bit_if with_bit has_bit step_all step_at step_one next_run each_to protections_after
    protection_after list_of list_from row_at table extremes_of best_of
words-steps = refl
