-- Document 01's replay example, byte for byte: the page, the log and what the replay writes for them (tests/examples has the same three as
-- files). It is computed through every definition from the page's bytes to the text, each of which the proofs below unfold.
-- Assumes nothing.
use Rattle.std.specs.Prelude.{ℕ, ◌≡◌, refl, List, [], ◌∷◌}
use Rattle.text_fields.specs.Quoted.{quoted}
use Rattle.pack_log.specs.Replay.{replayed}
use Rattle.laws.specs.Bits as laws-bits
use Rattle.laws.specs.Each as laws-each
use Rattle.laws.specs.Latest as laws-latest
use Rattle.laws.specs.Words as laws-words
use Rattle.units.specs.Signed as units-signed
use Rattle.protections.specs.Table as protections-table
use Rattle.crc.specs.CheckByte as crc-checkbyte
use Rattle.text_fields.specs.Decimal as text-decimal
use Rattle.text_fields.specs.Fields as text-fields
use Rattle.text_fields.specs.Finding as text-finding
use Rattle.text_numbers.specs.Numbers as numbers-numbers
use Rattle.log_lines.specs.Lines as lines-lines
use Rattle.log_lines.specs.Output as lines-output
use Rattle.page_words.specs.Ranges as ranges-ranges
use Rattle.page_faults.specs.Kinds as faults-kinds
use Rattle.page_faults.specs.Met as faults-met
use Rattle.page_judge.specs.Page as page-page
use Rattle.page_settings.specs.Settings as settings-settings
use Rattle.sample.specs.Cells as quantities-cells
use Rattle.laws.specs.Numbered as laws-numbered
use Rattle.guard.specs.Steps as guard-steps
use Rattle.guard_raised.specs.Words as raised-words
use Rattle.bleed_wants.specs.Steps as wishes-steps
use Rattle.bleed_wants.specs.Wants as wishes-wants
use Rattle.bleed_wants.specs.Word as wishes-word
use Rattle.bleed.specs.Resting.Steps as turns-steps
use Rattle.bleed.specs.Walk.Steps as walk_steps
use Rattle.bleed.specs.Walk.Word as walk-word
use Rattle.pack_refusals.specs.Samples as samples-samples
use Rattle.pack.specs.Kept as pack-kept
use Rattle.pack_shown.specs.Shown as shown-shown
use Rattle.pack.specs.Answers as pack-answers
use Rattle.pack_state.specs.State as state-state
use Rattle.log_entries.specs.Entry as entries-entry
use Rattle.log_answers.specs.Tell as log-answers-tell
use Rattle.log_texts.specs.Texts as answers-texts
use Rattle.pack_log.specs.Replay as log-replay

-- n 2, K 1, R 4, floor 3900, difference 10, detection 100; protection 0: 4250, 4150, 2, 2, mask 1
abbrev pub page : List ℕ
page = 164 ∷ 23 ∷ 2 ∷ 0 ∷ 1 ∷ 0 ∷ 4 ∷ 0 ∷ 60 ∷ 15 ∷ 10 ∷ 0 ∷ 100 ∷ 0 ∷ 104 ∷ 16 ∷ 208 ∷ 7 ∷ 0 ∷ 0 ∷ 0 ∷ 0 ∷ 0 ∷ 0 ∷ 0 ∷ 0 ∷ 0 ∷ 0 ∷ 0 ∷ 0 ∷ 0 ∷ 0 ∷ 154 ∷ 16 ∷ 54 ∷ 16 ∷ 2 ∷ 0 ∷ 2 ∷ 0 ∷ 1 ∷ 0 ∷ 240 ∷ 10 ∷ 184 ∷ 11 ∷ 4 ∷ 0 ∷ 4 ∷ 0 ∷ 2 ∷ 0 ∷ 184 ∷ 11 ∷ 196 ∷ 9 ∷ 4 ∷ 0 ∷ 8 ∷ 0 ∷ 1 ∷ 0 ∷ 216 ∷ 220 ∷ 144 ∷ 232 ∷ 8 ∷ 0 ∷ 8 ∷ 0 ∷ 2 ∷ 0 ∷ 224 ∷ 177 ∷ 24 ∷ 252 ∷ 1 ∷ 0 ∷ 8 ∷ 0 ∷ 3 ∷ 0 ∷ 45 ∷ 0 ∷ 40 ∷ 0 ∷ 8 ∷ 0 ∷ 8 ∷ 0 ∷ 1 ∷ 0 ∷ 60 ∷ 0 ∷ 55 ∷ 0 ∷ 8 ∷ 0 ∷ 8 ∷ 0 ∷ 2 ∷ 0 ∷ 65 ∷ 0 ∷ 58 ∷ 0 ∷ 8 ∷ 0 ∷ 8 ∷ 0 ∷ 3 ∷ 0 ∷ 0 ∷ 0 ∷ 0 ∷ 0 ∷ 0 ∷ 0 ∷ 0 ∷ 0 ∷ 0 ∷ 0 ∷ 0 ∷ 0 ∷ 0 ∷ 0 ∷ 0 ∷ 55 ∷ []

-- `F 3`, and four `S` lines
abbrev pub log : List ℕ
log = quoted "F\t3\nS\t500\t2980\t2980\t4000\t4020\nS\t500\t2980\t2980\t4260\t4100\nS\t500\t2980\t2980\t4260\t4100\nS\t500\t2980\t2980\t4100\n"

-- the header, four decisions, and `refused 9`
abbrev pub written : List ℕ
written = quoted "tick\traised\tfets\tbalance\tmode\n0\t0\t0\t0\t0\n1\t0\t3\t2\t3\n2\t0\t3\t1\t3\n3\t1\t2\t0\t21\nrefused\t9\n"

-- `page 1 0` for a page of no bytes, whatever the log is
abbrev pub page_line : List ℕ
page_line = quoted "page\t1\t0\n"

pub example : replayed page log ∷ replayed [] log ∷ [] ≡ written ∷ page_line ∷ []
unfolding laws-bits.has_bit laws-bits.with_bit_if laws-each.each_to units-signed.signed_of protections-table.row_at crc-checkbyte.times_x
    crc-checkbyte.times_xs crc-checkbyte.with_byte crc-checkbyte.remainder crc-checkbyte.check_byte text-decimal.decimal text-fields.fields_of
    text-finding.lacks numbers-numbers.digits_to numbers-numbers.number_to numbers-numbers.read_signed lines-lines.lines_of lines-output.answers
    lines-output.output ranges-ranges.word_at ranges-ranges.within ranges-ranges.degrees_fit ranges-ranges.level_fits ranges-ranges.level_of
    faults-kinds.kind_of faults-met.level_met faults-met.order_met faults-met.on_row faults-met.kind_meets faults-met.meets
    page-page.refusals page-page.judged settings-settings.in_degrees settings-settings.sample_level settings-settings.limits_from
    settings-settings.limits_for
    settings-settings.limits_of settings-settings.rules_of settings-settings.settings_of settings-settings.no_settings
    settings-settings.loaded_of quantities-cells.best_of quantities-cells.widened quantities-cells.extremes_of laws-numbered.list_from
    laws-numbered.list_of guard-steps.raised guard-steps.protection_after guard-steps.protections_after guard-steps.step_one guard-steps.step_at
    guard-steps.step_all guard-steps.clear guard-steps.clear_at laws-words.bits_of laws-words.any_of raised-words.raised_word
    raised-words.any_raised raised-words.blocks_one raised-words.blocks_any wishes-steps.volts_of turns-steps.cell_run_of
    wishes-steps.wishes wishes-steps.wanting_word turns-steps.run_reached turns-steps.resting_word turns-steps.next_cell laws-latest.next_run
    turns-steps.next_runs walk_steps.is_cell walk_steps.chosen_word walk_steps.beside_taken walk_steps.may_take walk_steps.take_one walk_steps.take_from
    wishes-wants.wants wishes-word.holds_cell walk-word.with_cell_if wishes-word.cells_passing samples-samples.cells_fit samples-samples.sample_refusals
    samples-samples.sample_verdict samples-samples.command_refusals samples-samples.command_verdict samples-samples.kept_cell
    samples-samples.trimmed pack-kept.after_load shown-shown.mode_order shown-shown.first_mode shown-shown.switches_of shown-shown.mode_of
    shown-shown.decision_of state-state.next_tick state-state.fresh_balance state-state.next_balance state-state.want_at
    state-state.accepted_pack state-state.fresh_pack pack-answers.offered pack-answers.with_command pack-answers.commanded
    entries-entry.read_command entries-entry.cells_from entries-entry.second_from entries-entry.first_from entries-entry.read_sample
    entries-entry.fields_say entries-entry.read_entry log-answers-tell.outcome_of log-answers-tell.tell text-fields.line_of answers-texts.header_text
    answers-texts.page_text answers-texts.decision_text answers-texts.refused_text log-replay.replayed
example = refl
