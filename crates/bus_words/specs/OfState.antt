-- Computed words of a state of document 01's replay page: after one sample with both switches commanded, and after two that raise over voltage.
-- Assumes nothing.
use Rattle.std.specs.Prelude.{◌≡◌, refl, List, [], ◌∷◌, map, ℕ, pos}
use Rattle.laws.specs.Bits.{has_bit, with_bit, with_bit_if}
use Rattle.laws.specs.Numbered.{list_of, list_from}
use Rattle.laws.specs.Words.{bits_of, any_of}
use Rattle.units.specs.Signed.{word_of}
use Rattle.protections.specs.Table.{row_at, table as rows}
use Rattle.sample.specs.Cells.{best_of, extremes_of}
use Rattle.sample.specs.Cases.{sampled}
use Rattle.sample.specs.Measure.{measure}
use Rattle.sample.specs.declared.Sample.{Sample}
use Rattle.guard.specs.Steps.{raised, protection_after, protections_after}
use Rattle.guard_raised.specs.Words.{any_raised_after, raised_word, blocks_one, blocks_any}
use Rattle.bleed_wants.specs.Steps.{volts_of, wishes}
use Rattle.bleed_wants.specs.Wants.{wants}
use Rattle.bleed.specs.Walk.Balance.{bled_word_after}
use Rattle.bleed.specs.Walk.Word.{with_cell_if}
use Rattle.page_settings.specs.Cases.{worked}
use Rattle.pack_state.specs.Past.{past}
use Rattle.pack_state.specs.State.{wish_at, wishes_after, bled_after, balance_after, state_after}
use Rattle.pack_shown.specs.Shown.{mode_order, first_mode, mode_of, switches_of}
use Rattle.bus_table.specs.Table.{table, row_of_command}
use Rattle.bus_words.specs.Words.{sum_to, cell_word, heat_raised, status_word, with_switches, pack_word, sent_word, said_of}

abbrev two : ℕ → ℕ → Sample
two a b = sampled 2 (a ∷ b ∷ 0 ∷ 0 ∷ 0 ∷ 0 ∷ 0 ∷ 0 ∷ 0 ∷ 0 ∷ []) (pos 500) 2981 2999

-- The words of all commands after these samples, the latest first, with both switches commanded.
abbrev words : List Sample → List ℕ
words h =
    map (λ c. sent_word (said_of (state_after worked (past h 3))) (row_of_command c))
    (0x08 ∷ 0x44 ∷ 0x09 ∷ 0x42 ∷ 0x0A ∷ 0x14 ∷ 0x15 ∷ 0x16 ∷ 0x30 ∷ 0x31 ∷ 0x32 ∷ 0x41 ∷ 0x45 ∷ 0x46 ∷ [])

pub state-words
    : (words (two 4000 4020 ∷ []) ∷ words (two 4260 4100 ∷ two 4260 4100 ∷ []) ∷ [])
    ≡ ((2981 ∷ 2999 ∷ 8020 ∷ 8020 ∷ 500 ∷ 1000 ∷ 8400 ∷ 0x0080 ∷ 4000 ∷ 4020 ∷ 0 ∷ 0x03 ∷ 0x0300 ∷ 2 ∷ [])
    ∷ (2981 ∷ 2999 ∷ 8360 ∷ 8360 ∷ 500 ∷ 0 ∷ 0 ∷ 0xC080 ∷ 4260 ∷ 4100 ∷ 0 ∷ 0x15 ∷ 0x0201 ∷ 0 ∷ [])
    ∷ [])
unfolding state_after balance_after bled_after bled_word_after wishes_after wish_at wishes volts_of wants any_raised_after protections_after protection_after list_of
    list_from raised_word blocks_any blocks_one bits_of any_of with_bit_if with_bit has_bit with_cell_if raised row_at rows measure extremes_of best_of mode_of switches_of
    mode_order first_mode row_of_command table sent_word pack_word sum_to cell_word status_word heat_raised with_switches word_of
state-words = refl
