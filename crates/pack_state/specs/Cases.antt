-- Computed cases: the tick's last value; document 01's starred seven samples, with the start cell, who rests and who is bled at each; and a
-- protection of mask 0 that stops bleeding.
-- Assumes nothing.
use Rattle.std.specs.Prelude.{◌≡◌, refl, true, false, List, [], ◌∷◌, ◌++◌, map, ℕ, pos, take, drop}
use Rattle.laws.specs.Bits.{has_bit, with_bit, with_bit_if}
use Rattle.laws.specs.Each.{each_to}
use Rattle.laws.specs.Latest.{next_run}
use Rattle.laws.specs.Numbered.{list_of}
use Rattle.laws.specs.Words.{bits_of, any_of}
use Rattle.protections.specs.Table.{row_at, table}
use Rattle.sample.specs.Cells.{best_of, extremes_of}
use Rattle.sample.specs.Measure.{measure}
use Rattle.sample.specs.Cases.{sampled}
use Rattle.sample.specs.declared.Sample.{Sample}
use Rattle.guard.specs.Cases.{limited}
use Rattle.guard.specs.Steps.{raised, protection_after, protections_after, step_one, step_at, step_all}
use Rattle.guard_raised.specs.Words.{any_raised, any_raised_after}
use Rattle.bleed_wants.specs.Wants.{wants}
use Rattle.bleed_wants.specs.Word.{holds_cell, cells_passing}
use Rattle.bleed_wants.specs.Steps.{volts_of, wishes, wanting_word}
use Rattle.bleed.specs.Resting.Steps.{next_cell, next_runs, cell_run_of, run_reached, resting_word}
use Rattle.bleed.specs.Walk.Steps.{is_cell, chosen_word}
use Rattle.bleed.specs.Walk.Word.{with_cell_if}
use Rattle.bleed.specs.Walk.Balance.{bled_word_after}
use Rattle.page_settings.specs.declared.Settings.{Settings}
use Rattle.page_settings.specs.Cases.{rules_for, worked}
use Rattle.pack_state.specs.declared.Balance.{Balance}
use Rattle.pack_state.specs.declared.Pack.{Pack}
use Rattle.pack_state.specs.State.{wish_at, wishes_after, rested_after, bled_after, balance_after, next_tick, fresh_balance, next_balance, want_at, accepted_pack, fresh_pack}

-- "The count of accepted samples modulo 1000000": the tick is 999999 once, and 0 behind it.
pub tick-wraps : map next_tick (0 ∷ 1 ∷ 99999 ∷ 999998 ∷ 999999 ∷ []) ≡ (1 ∷ 2 ∷ 100000 ∷ 999999 ∷ 0 ∷ [])
unfolding next_tick
tick-wraps = refl

-- ---- (*) "n 3, K 1, R 1. At samples 3 to 7 the wanting cells are {1,2}, {1,3}, {1,2}, {1,3}, {1,2}; none want earlier. Bled: 1, 3, 2, 3, 1."

-- The worked page with n 3, K 1 and this for R.
abbrev page : ℕ → Settings
page r = record { rules = rules_for 3 1 r; limits = worked.limits }

-- Charging with 100 mA, the detection current: cells of 4020 mV want bleeding beside one of 4000 mV.
abbrev charged : ℕ → ℕ → ℕ → Sample
charged a b c = sampled 3 (a ∷ b ∷ c ∷ 0 ∷ 0 ∷ 0 ∷ 0 ∷ 0 ∷ 0 ∷ 0 ∷ []) (pos 100) 2980 2980

-- The seven samples, the latest first.
abbrev seven : List Sample
seven =
    charged 4020 4020 4000
    ∷ charged 4020 4000 4020
    ∷ charged 4020 4020 4000
    ∷ charged 4020 4000 4020
    ∷ charged 4020 4020 4000
    ∷ charged 4000 4000 4000
    ∷ charged 4000 4000 4000
    ∷ []

-- The start cell, the words of who rested and who was bled, and the next start cell.
abbrev kept : Balance → List ℕ
kept b = b.begun.0 ∷ b.rested ∷ b.bled ∷ b.start.0 ∷ []

-- What is kept after each sample of a history, the latest first and the load last: as document 01 says it, and step by step.
abbrev said : ℕ → List Sample → List (List ℕ)
said r [] = kept (balance_after (page r) []) ∷ []
said r (s ∷ h) = kept (balance_after (page r) (s ∷ h)) ∷ said r h

abbrev stepped : ℕ → List Sample → Pack
stepped r [] = fresh_pack (page r)
stepped r (s ∷ h) = accepted_pack (stepped r h) s

abbrev made : ℕ → List Sample → List (List ℕ)
made r [] = kept (stepped r []).balance ∷ []
made r (s ∷ h) = kept (stepped r (s ∷ h)).balance ∷ made r h

-- Cells 1, 2 and 3 have the bits 1, 2 and 4. Who was bled at the sample before rests, since R is 1.
abbrev starred : List (List ℕ)
starred =
    (1 ∷ 4 ∷ 1 ∷ 2 ∷ [])
    ∷ (3 ∷ 2 ∷ 4 ∷ 1 ∷ [])
    ∷ (2 ∷ 4 ∷ 2 ∷ 3 ∷ [])
    ∷ (1 ∷ 1 ∷ 4 ∷ 2 ∷ [])
    ∷ (3 ∷ 0 ∷ 1 ∷ 1 ∷ [])
    ∷ (2 ∷ 0 ∷ 0 ∷ 3 ∷ [])
    ∷ (1 ∷ 0 ∷ 0 ∷ 2 ∷ [])
    ∷ (1 ∷ 0 ∷ 0 ∷ 1 ∷ [])
    ∷ []

-- With R 2 a cell that alone wants always, cell 1, is bled at two samples in a row and rests at the third.
abbrev always : List Sample
always = charged 4020 4000 4000 ∷ charged 4020 4000 4000 ∷ charged 4020 4000 4000 ∷ charged 4020 4000 4000 ∷ []

abbrev rests-third : List (List ℕ)
rests-third =
    (1 ∷ 0 ∷ 1 ∷ 2 ∷ []) ∷ (3 ∷ 1 ∷ 0 ∷ 1 ∷ []) ∷ (2 ∷ 0 ∷ 1 ∷ 3 ∷ []) ∷ (1 ∷ 0 ∷ 1 ∷ 2 ∷ []) ∷ (1 ∷ 0 ∷ 0 ∷ 1 ∷ []) ∷ []

pub starred-said : (said 1 seven ∷ said 2 always ∷ []) ≡ (starred ∷ rests-third ∷ [])
unfolding balance_after rested_after bled_after bled_word_after wishes_after wish_at wishes volts_of wants any_raised_after any_of raised row_at table measure
    extremes_of best_of cells_passing bits_of with_bit_if with_bit with_cell_if
starred-said = refl

pub starred-made : (made 1 seven ∷ made 2 always ∷ []) ≡ (starred ∷ rests-third ∷ [])
unfolding accepted_pack fresh_pack fresh_balance next_balance want_at wanting_word wishes volts_of wants any_raised any_of step_all
    step_at step_one next_run protections_after protection_after list_of raised row_at table measure extremes_of best_of resting_word run_reached cell_run_of chosen_word
    is_cell holds_cell has_bit with_cell_if with_bit_if with_bit cells_passing bits_of next_cell next_runs each_to
starred-made = refl

-- ---- a protection of mask 0 only reports, and stops all bleeding while it is raised

-- The same page, but over charge current is raised by one sample of 80 mA or more and blocks no switch.
abbrev reporting : Settings
reporting = record { rules = (page 1).rules; limits = take 2 worked.limits ++ limited (pos 80) (pos 50) 1 1 0 ∷ drop 3 worked.limits }

-- Who wants and who is bled at one sample at which cell 2 exceeds the others.
pub mask-zero-said :
    (wish_at (page 1) (charged 4000 4020 4000) [] 2 ∷ wish_at reporting (charged 4000 4020 4000) [] 2 ∷ [] ≡ true ∷ false ∷ [])
    × (bled_after (page 1) (charged 4000 4020 4000 ∷ []) ∷ bled_after reporting (charged 4000 4020 4000 ∷ []) ∷ [] ≡ 2 ∷ 0 ∷ [])
unfolding bled_after bled_word_after wishes_after wish_at wishes volts_of wants any_raised_after any_of raised row_at table measure extremes_of best_of with_bit
mask-zero-said = (refl, refl)

pub mask-zero-made :
    map (λ (p : Pack). p.balance.bled) (accepted_pack (fresh_pack (page 1)) (charged 4000 4020 4000) ∷ accepted_pack (fresh_pack reporting) (charged 4000 4020 4000) ∷ [])
    ≡ 2 ∷ 0 ∷ []
unfolding accepted_pack fresh_pack fresh_balance next_balance want_at wanting_word wishes volts_of wants any_raised any_of step_all
    step_at step_one next_run protections_after protection_after list_of raised row_at table measure extremes_of best_of resting_word run_reached cell_run_of chosen_word
    is_cell holds_cell has_bit with_cell_if with_bit_if with_bit cells_passing bits_of next_cell next_runs each_to
mask-zero-made = refl
