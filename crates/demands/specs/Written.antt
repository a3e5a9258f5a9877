-- Samples, events and pages written short, for the computed cases, and what these compute with.
-- Assumes nothing.
use Rattle.std.specs.Prelude.{cond, List, [], ◌∷◌, ◌++◌, map, ℕ, ℤ, pos, length, take, replicate}
use Rattle.laws.specs.Bits.{has_bit, with_bit, with_bit_if}
use Rattle.laws.specs.Each.{each_to}
use Rattle.laws.specs.Numbered.{list_of, list_from}
use Rattle.units.specs.Signed.{signed_of}
use Rattle.crc.specs.CheckByte.{times_x, times_xs, with_byte, remainder, check_byte}
use Rattle.protections.specs.Table.{row_at, table}
use Rattle.page_words.specs.Ranges.{word_at, within, degrees_fit, level_fits, level_of}
use Rattle.page_faults.specs.Kinds.{kind_of}
use Rattle.page_faults.specs.Met.{level_met, order_met, on_row, kind_meets, meets}
use Rattle.page_judge.specs.Page.{refusals, judged}
use Rattle.page_judge.specs.Worked.{page_with, put}
use Rattle.page_settings.specs.Settings.{in_degrees, sample_level, limits_from, limits_for, limits_of, rules_of, settings_of, no_settings, loaded_of}
use Rattle.sample.specs.Cases as sample
use Rattle.sample.specs.Cells.{best_of, extremes_of}
use Rattle.sample.specs.Measure.{measure}
use Rattle.guard.specs.Steps.{raised, protections_after, protection_after, step_all, step_at, step_one}
use Rattle.laws.specs.Words.{bits_of, any_of}
use Rattle.guard_raised.specs.Words.{raised_word, any_raised, blocks_one, blocks_any, any_raised_after}
use Rattle.bleed_wants.specs.Wants.{wants}
use Rattle.bleed_wants.specs.Word.{holds_cell, cells_passing}
use Rattle.bleed_wants.specs.Steps.{volts_of, wishes, wanting_word}
use Rattle.laws.specs.Latest.{next_run}
use Rattle.bleed.specs.Resting.Steps.{next_cell, next_runs, cell_run_of, run_reached, resting_word}
use Rattle.bleed.specs.Walk.Walk.{has, up_from}
use Rattle.bleed.specs.Walk.Steps.{is_cell, chosen_word}
use Rattle.pack_refusals.specs.Samples.{cells_fit, sample_refusals, sample_verdict, command_refusals, command_verdict, kept_cell, trimmed}
use Rattle.pack_state.specs.State.{wish_at, wishes_after, fresh_pack, fresh_balance, next_tick, next_balance, want_at, accepted_pack}
use Rattle.pack.specs.Events.{Event, offer, with_event, past_of}
use Rattle.pack.specs.Answers.{offered, with_command, commanded}
use Rattle.pack.specs.Kept.{after_load}
use Rattle.pack_shown.specs.Shown.{mode_order, first_mode, switches_of, mode_of, decision_of}

-- A sample with these cells; the entries past them are 0.
abbrev pub sampled : ℤ → ℕ → ℕ → List ℕ → Event
sampled current t1 t2 cells = offer (sample.sampled (length cells) (take 10 (cells ++ replicate 10 0)) current t1 t2)

-- Charging with 500 mA at 25 °C.
abbrev pub charged : List ℕ → Event
charged cells = sampled (pos 500) 2980 2980 cells

-- Charging: of cells 1 to n those in the list have 4100 mV, the others 4000 mV.
abbrev pub charged_high : ℕ → List ℕ → Event
charged_high n high = charged (map (λ k. cond (has k high) 4100 4000) (up_from 1 n))

-- The page of document 01's replay example with n cells, K 1 and R 1 in the place of its own.
abbrev pub page_for : ℕ → List ℕ
page_for n = page_with (put 1 n ∷ put 2 1 ∷ put 3 1 ∷ [])

-- All that a case computes with, from a page's bytes and events to what is shown: `unfolding computed` opens each of them.
unfoldable pub computed : Unit {0}
unfolding any_of loaded_of settings_of rules_of limits_of limits_for limits_from sample_level in_degrees level_of signed_of judged refusals meets
    kind_of kind_meets on_row level_met order_met word_at within degrees_fit level_fits row_at table check_byte remainder with_byte
    times_xs times_x after_load fresh_pack fresh_balance offered commanded with_command accepted_pack next_balance want_at next_tick
    decision_of switches_of mode_of mode_order first_mode sample_verdict sample_refusals command_verdict command_refusals cells_fit
    trimmed kept_cell protections_after protection_after step_all step_at step_one list_of list_from each_to extremes_of best_of
    raised_word any_raised blocks_any blocks_one bits_of has_bit with_bit with_bit_if wants holds_cell cells_passing volts_of cell_run_of wishes
    wanting_word run_reached resting_word next_cell next_run next_runs is_cell chosen_word no_settings wishes_after wish_at any_raised_after raised
    measure with_event past_of
computed = tt
