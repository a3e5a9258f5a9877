-- Who wants and who is bled by the page's own words: a page with floor 3700, difference 25 and detection 150, and document 01's worked page at
-- and below its detection current. Cell 2 of the sample is the one that stands out.
-- Assumes nothing.
use Rattle.std.specs.Prelude.{◌≡◌, refl, Bool, true, false, List, [], ◌∷◌, map, ℕ, ℤ, pos}
use Rattle.laws.specs.Bits.{has_bit, with_bit, with_bit_if}
use Rattle.laws.specs.Each.{each_to}
use Rattle.laws.specs.Latest.{next_run}
use Rattle.laws.specs.Numbered.{list_of}
use Rattle.laws.specs.Words.{bits_of, any_of}
use Rattle.protections.specs.Table.{row_at, table}
use Rattle.sample.specs.Cells.{best_of, extremes_of}
use Rattle.sample.specs.Measure.{measure}
use Rattle.sample.specs.Cases.{sampled, below_zero}
use Rattle.sample.specs.declared.Sample.{Sample}
use Rattle.guard.specs.Steps.{raised, protection_after, protections_after, step_one, step_at, step_all}
use Rattle.guard_raised.specs.Words.{any_raised, any_raised_after}
use Rattle.bleed_wants.specs.Wants.{wants}
use Rattle.bleed_wants.specs.Word.{holds_cell, cells_passing}
use Rattle.bleed_wants.specs.Steps.{volts_of, wishes, wanting_word}
use Rattle.bleed.specs.Resting.Steps.{next_cell, next_runs, cell_run_of, run_reached, resting_word}
use Rattle.bleed.specs.Walk.Steps.{is_cell, chosen_word}
use Rattle.bleed.specs.Walk.Word.{with_cell_if}
use Rattle.page_settings.specs.Cases.{unlike, worked}
use Rattle.pack_state.specs.State.{wish_at, fresh_balance, next_balance, want_at, accepted_pack, fresh_pack}

-- Seven cells of this, the second one of that, at a current and two temperatures.
abbrev seven : ℤ → ℕ → ℕ → ℕ → ℕ → Sample
seven current t1 t2 low b = sampled 7 (low ∷ b ∷ low ∷ low ∷ low ∷ low ∷ low ∷ 0 ∷ 0 ∷ 0 ∷ []) current t1 t2

-- At and below the floor; at the difference and above it; at the detection current, and at 149, 100, 99, 0 and -1 mA. Warm, cold and with a cold
-- or a warm second thermistor it wants as well, since nothing is raised: no other reason keeps it.
abbrev samples : List Sample
samples =
    seven (pos 150) 2980 2980 3600 3700
    ∷ seven (pos 150) 2980 2980 3600 3699
    ∷ seven (pos 150) 2980 2980 3700 3725
    ∷ seven (pos 150) 2980 2980 3700 3726
    ∷ seven (pos 149) 2980 2980 3700 3800
    ∷ seven (pos 100) 2980 2980 3700 3800
    ∷ seven (pos 99) 2980 2980 3700 3800
    ∷ seven (pos 0) 2980 2980 3700 3800
    ∷ seven (below_zero 1) 2980 2980 3700 3800
    ∷ seven (pos 150) 3100 2000 3700 3800
    ∷ seven (pos 1900) 2000 4500 3700 4299
    ∷ []

abbrev wanting : List Bool
wanting = true ∷ false ∷ false ∷ true ∷ false ∷ false ∷ false ∷ false ∷ false ∷ true ∷ true ∷ []

pub words-said : map (λ s. wish_at unlike s [] 2) samples ≡ wanting
unfolding wish_at wishes volts_of wants any_raised_after any_of raised row_at table measure extremes_of best_of
words-said = refl

pub words-made : map (λ s. has_bit (accepted_pack (fresh_pack unlike) s).balance.bled 1) samples ≡ wanting
unfolding accepted_pack fresh_pack fresh_balance next_balance want_at wanting_word wishes volts_of wants any_raised any_of step_all
    step_at step_one next_run protections_after protection_after list_of raised row_at table measure extremes_of best_of resting_word run_reached cell_run_of chosen_word
    is_cell holds_cell has_bit with_cell_if with_bit_if with_bit cells_passing bits_of next_cell next_runs each_to
words-made = refl

-- The worked page, whose detection current is 100 mA, with unlike cells at 100, 99, 0 and -500 mA.
abbrev two : ℤ → Sample
two current = sampled 2 (4000 ∷ 4020 ∷ 0 ∷ 0 ∷ 0 ∷ 0 ∷ 0 ∷ 0 ∷ 0 ∷ 0 ∷ []) current 2980 2980

abbrev currents : List ℤ
currents = pos 100 ∷ pos 99 ∷ pos 0 ∷ below_zero 500 ∷ []

pub below-detection
    : (map (λ z. wish_at worked (two z) [] 2) currents ≡ true ∷ false ∷ false ∷ false ∷ [])
    × (map (λ z. (accepted_pack (fresh_pack worked) (two z)).balance.bled) currents ≡ 2 ∷ 0 ∷ 0 ∷ 0 ∷ [])
unfolding wish_at any_raised_after accepted_pack fresh_pack fresh_balance next_balance want_at wanting_word wishes volts_of wants any_raised any_of step_all
    step_at step_one next_run protections_after protection_after list_of raised row_at table measure extremes_of best_of resting_word run_reached cell_run_of chosen_word
    is_cell holds_cell has_bit with_cell_if with_bit_if with_bit cells_passing bits_of next_cell next_runs each_to
below-detection = (refl, refl)
