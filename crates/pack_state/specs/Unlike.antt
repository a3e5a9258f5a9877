-- The worked page with n 5, K 2 and R 3: cells 1, 3 and 5 always want, and what is kept after each of five samples is computed, from the
-- history and step by step. Each of the three numbers is read where it belongs: two cells are bled at a time, and one rests after three
-- samples.
-- Assumes nothing.
use Rattle.std.specs.Prelude.{◌≡◌, refl, List, [], ◌∷◌, ℕ, pos, replicate}
use Rattle.laws.specs.Bits.{has_bit, with_bit, with_bit_if}
use Rattle.laws.specs.Each.{each_to}
use Rattle.laws.specs.Latest.{next_run}
use Rattle.laws.specs.Numbered.{list_of}
use Rattle.laws.specs.Words.{bits_of, any_of}
use Rattle.protections.specs.Table.{row_at, table}
use Rattle.sample.specs.Cells.{best_of, extremes_of}
use Rattle.sample.specs.Measure.{measure}
use Rattle.sample.specs.Cases.{sampled}
use Rattle.sample.specs.declared.Sample.{Sample}
use Rattle.guard.specs.Steps.{raised, protection_after, protections_after, step_one, step_at, step_all}
use Rattle.guard_raised.specs.Words.{any_raised, any_raised_after}
use Rattle.bleed_wants.specs.Wants.{wants}
use Rattle.bleed_wants.specs.Word.{holds_cell, cells_passing}
use Rattle.bleed_wants.specs.Steps.{volts_of, wishes, wanting_word}
use Rattle.bleed.specs.Resting.Steps.{next_cell, next_runs, cell_run_of, run_reached, resting_word}
use Rattle.bleed.specs.Walk.Steps.{is_cell, chosen_word}
use Rattle.bleed.specs.Walk.Word.{with_cell_if}
use Rattle.bleed.specs.Walk.Balance.{runs_after, bled_word_after}
use Rattle.page_settings.specs.declared.Settings.{Settings}
use Rattle.page_settings.specs.Cases.{rules_for, worked}
use Rattle.pack_state.specs.declared.Balance.{Balance}
use Rattle.pack_state.specs.declared.Pack.{Pack}
use Rattle.pack_state.specs.State.{wish_at, wishes_after, rested_after, bled_after, balance_after, fresh_balance, next_balance, want_at, accepted_pack, fresh_pack}

abbrev page : Settings
page = record { rules = rules_for 5 2 3; limits = worked.limits }

abbrev five : List Sample
five = replicate 5 (sampled 5 (4020 ∷ 4000 ∷ 4020 ∷ 4000 ∷ 4020 ∷ 0 ∷ 0 ∷ 0 ∷ 0 ∷ 0 ∷ []) (pos 100) 2980 2980)

-- The start cell, the words of who rested and who was bled, the next start cell, and the runs of cells 1 to 10.
abbrev kept : Balance → List ℕ
kept b = b.begun.0 ∷ b.rested ∷ b.bled ∷ b.start.0 ∷ b.runs

abbrev said : List Sample → List (List ℕ)
said [] = kept (balance_after page []) ∷ []
said (s ∷ h) = kept (balance_after page (s ∷ h)) ∷ said h

abbrev stepped : List Sample → Pack
stepped [] = fresh_pack page
stepped (s ∷ h) = accepted_pack (stepped h) s

abbrev made : List Sample → List (List ℕ)
made [] = kept (stepped []).balance ∷ []
made (s ∷ h) = kept (stepped (s ∷ h)).balance ∷ made h

-- The latest first, the load last. Cells 1, 3 and 5 have the bits 1, 4 and 16; at the fourth sample cell 3 rests, at the fifth cell 5.
abbrev right : List (List ℕ)
right =
    (5 ∷ 16 ∷ 5 ∷ 1 ∷ 2 ∷ 0 ∷ 1 ∷ 0 ∷ 0 ∷ 0 ∷ 0 ∷ 0 ∷ 0 ∷ 0 ∷ [])
    ∷ (4 ∷ 4 ∷ 17 ∷ 5 ∷ 1 ∷ 0 ∷ 0 ∷ 0 ∷ 3 ∷ 0 ∷ 0 ∷ 0 ∷ 0 ∷ 0 ∷ [])
    ∷ (3 ∷ 0 ∷ 20 ∷ 4 ∷ 0 ∷ 0 ∷ 3 ∷ 0 ∷ 2 ∷ 0 ∷ 0 ∷ 0 ∷ 0 ∷ 0 ∷ [])
    ∷ (2 ∷ 0 ∷ 20 ∷ 3 ∷ 0 ∷ 0 ∷ 2 ∷ 0 ∷ 1 ∷ 0 ∷ 0 ∷ 0 ∷ 0 ∷ 0 ∷ [])
    ∷ (1 ∷ 0 ∷ 5 ∷ 2 ∷ 1 ∷ 0 ∷ 1 ∷ 0 ∷ 0 ∷ 0 ∷ 0 ∷ 0 ∷ 0 ∷ 0 ∷ [])
    ∷ (1 ∷ 0 ∷ 0 ∷ 1 ∷ 0 ∷ 0 ∷ 0 ∷ 0 ∷ 0 ∷ 0 ∷ 0 ∷ 0 ∷ 0 ∷ 0 ∷ [])
    ∷ []

pub unlike-said : said five ≡ right
unfolding balance_after runs_after rested_after bled_after bled_word_after wishes_after wish_at wishes volts_of wants any_raised_after any_of raised row_at table measure
    extremes_of best_of cells_passing bits_of with_bit_if with_bit with_cell_if
unlike-said = refl

pub unlike-made : made five ≡ right
unfolding accepted_pack fresh_pack fresh_balance next_balance want_at wanting_word wishes volts_of wants any_raised any_of step_all
    step_at step_one next_run protections_after protection_after list_of raised row_at table measure extremes_of best_of resting_word run_reached cell_run_of chosen_word
    is_cell holds_cell has_bit with_cell_if with_bit_if with_bit cells_passing bits_of next_cell next_runs each_to
unlike-made = refl
