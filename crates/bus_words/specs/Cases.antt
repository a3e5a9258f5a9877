-- Computed cases: each bit of the status by itself, the words of document 01's replay, before and after a switch command, those of a page with
-- another detection current, ten unlike cells, and who is bled of ten.
-- Assumes nothing.
use Rattle.std.specs.Prelude.{◌≡◌, refl, Bool, true, false, List, [], ◌∷◌, map, ℕ, eqb, ℤ, pos, replicate}
use Rattle.laws.specs.Bits.{has_bit, with_bit, with_bit_if}
use Rattle.laws.specs.Each.{each_to}
use Rattle.units.specs.Signed.{word_of}
use Rattle.page_words.specs.Ranges.{within}
use Rattle.protections.specs.declared.Limits.{Limits}
use Rattle.protections.specs.Table.{row_at, table as rows}
use Rattle.sample.specs.Cells.{best_of, extremes_of}
use Rattle.sample.specs.Cases.{below_zero, sampled}
use Rattle.guard.specs.Cases.{limited}
use Rattle.sample.specs.Measure.{measure}
use Rattle.guard.specs.Steps.{raised}
use Rattle.laws.specs.Words.{bits_of, any_of}
use Rattle.guard_raised.specs.Words.{raised_word_after, any_raised_after, blocks_after}
use Rattle.bleed.specs.Walk.Balance.{bled_word_after}
use Rattle.bleed_wants.specs.Steps.{volts_of, wishes}
use Rattle.bleed_wants.specs.Wants.{wants}
use Rattle.bleed.specs.Walk.Word.{with_cell_if}
use Rattle.pack_refusals.specs.Samples.{cells_fit, kept_cell, trimmed, sample_refusals, sample_verdict, command_refusals, command_verdict}
use Rattle.page_settings.specs.declared.Rules.{Rules}
use Rattle.page_settings.specs.declared.Settings.{Settings}
use Rattle.page_settings.specs.Cases as settings
use Rattle.pack.specs.Events.{Event, offer, command, with_event, past_of}
use Rattle.pack_state.specs.State.{wish_at, wishes_after, bled_after}
use Rattle.pack_shown.specs.Shown.{mode_order, first_mode, mode_after}
use Rattle.bus_table.specs.Table.{table, row_of_command}
use Rattle.bus_words.specs.Words.{sum_to, cell_word, heat_raised, status_word, with_switches, numbers_word, pack_word, sent_word, word_after}

-- ---- battery status, each bit by itself, beside 0x0080

abbrev none : ℕ → Bool
none i = false

pub status-bits
    : (status_word none none true ∷ status_word (eqb 0) none true ∷ status_word none (eqb 0) true ∷ status_word (eqb 5) none true
    ∷ status_word (eqb 6) none true ∷ status_word (eqb 7) none true ∷ status_word none (eqb 1) true ∷ status_word none none false ∷ [])
    ≡ (0x0080 ∷ 0x8080 ∷ 0x4080 ∷ 0x1080 ∷ 0x1080 ∷ 0x1080 ∷ 0x0880 ∷ 0x00C0 ∷ [])
unfolding status_word heat_raised
status-bits = refl

-- Protections 1 to 4 have no bit of their own, nor have 8 and 9.
pub status-others : map (λ p. status_word (eqb p) none true) (1 ∷ 2 ∷ 3 ∷ 4 ∷ 8 ∷ 9 ∷ []) ≡ replicate 6 0x0080
unfolding status_word heat_raised
status-others = refl

-- ---- words of a page and events, the latest event first

abbrev words : Settings → List Event → List ℕ → List ℕ
words page es cs = map (word_after page (past_of page.rules.n es)) cs

abbrev never : List Limits
never =
    limited (pos 0) (pos 1) 1 1 3
    ∷ limited (pos 32767) (pos 0) 1 1 3
    ∷ limited (below_zero 32768) (pos 0) 1 1 3
    ∷ limited (below_zero 32768) (pos 0) 1 1 3
    ∷ limited (pos 3930) (pos 3000) 1 1 3
    ∷ limited (pos 3930) (pos 3000) 1 1 3
    ∷ limited (pos 3930) (pos 3000) 1 1 3
    ∷ limited (pos 2331) (pos 2432) 1 1 3
    ∷ limited (pos 2331) (pos 2432) 1 1 3
    ∷ []

abbrev rules-with : ℕ → ℕ → Rules
rules-with n volts =
    record {
      n = n;
      k = 1;
      r = 4;
      floor = record { 0 = 3900 };
      difference = record { 0 = 10 };
      detection = pos 100;
      voltage = record { 0 = volts };
      current = pos 1500;
    }

abbrev page-with : ℕ → ℕ → List Limits → Settings
page-with n volts limits = record { rules = rules-with n volts; limits = limits }

abbrev two : ℤ → ℕ → ℕ → ℕ → ℕ → Event
two current t1 t2 a b = offer (sampled 2 (a ∷ b ∷ 0 ∷ 0 ∷ 0 ∷ 0 ∷ 0 ∷ 0 ∷ 0 ∷ 0 ∷ []) current t1 t2)

-- Document 01's replay: protection 0 at 4250, 4150, 2, 2, mask 1, and the others never trip.
abbrev replayed : Settings
replayed = page-with 2 4200 (limited (pos 4250) (pos 4150) 2 2 1 ∷ never)

abbrev first-three : List Event
first-three =
    two (pos 500) 2980 2980 4260 4100
    ∷ two (pos 500) 2980 2980 4260 4100
    ∷ two (pos 500) 2980 2980 4000 4020
    ∷ command 3
    ∷ []

abbrev all : List ℕ
all = 0x08 ∷ 0x44 ∷ 0x09 ∷ 0x42 ∷ 0x0A ∷ 0x14 ∷ 0x15 ∷ 0x16 ∷ 0x30 ∷ 0x31 ∷ 0x32 ∷ 0x41 ∷ 0x45 ∷ 0x46 ∷ 0x47 ∷ []

-- After the second sample cell 1 is bled, and both switches are on.
pub second-sample : words replayed (two (pos 500) 2981 2999 4260 4100 ∷ two (pos 500) 2980 2980 4000 4020 ∷ command 3 ∷ []) all
    ≡ (2981 ∷ 2999 ∷ 8360 ∷ 8360 ∷ 500 ∷ 1500 ∷ 8400 ∷ 0x0080 ∷ 4260 ∷ 4100 ∷ 0 ∷ 0x03 ∷ 0x0300 ∷ 0x0001 ∷ 0x0201 ∷ [])
unfolding word_after row_of_command table sent_word pack_word sum_to cell_word numbers_word status_word heat_raised with_switches with_bit_if with_bit has_bit word_of past_of
    with_event sample_verdict sample_refusals within cells_fit trimmed each_to kept_cell command_verdict command_refusals mode_after first_mode
    mode_order raised_word_after blocks_after any_raised_after bits_of any_of raised row_at rows measure extremes_of best_of bled_after bled_word_after wishes_after wish_at
    wishes volts_of wants with_cell_if
second-sample = refl

-- After the third, protection 0 is raised and blocks charge: the charging words are 0.
pub third-sample : words replayed first-three all
    ≡ (2980 ∷ 2980 ∷ 8360 ∷ 8360 ∷ 500 ∷ 0 ∷ 0 ∷ 0xC080 ∷ 4260 ∷ 4100 ∷ 0 ∷ 0x15 ∷ 0x0201 ∷ 0x0000 ∷ 0x0201 ∷ [])
unfolding word_after row_of_command table sent_word pack_word sum_to cell_word numbers_word status_word heat_raised with_switches with_bit_if with_bit has_bit word_of past_of
    with_event sample_verdict sample_refusals within cells_fit trimmed each_to kept_cell command_verdict command_refusals mode_after first_mode
    mode_order raised_word_after blocks_after any_raised_after bits_of any_of raised row_at rows measure extremes_of best_of bled_after bled_word_after wishes_after wish_at
    wishes volts_of wants with_cell_if
third-sample = refl

-- 0x45 before a switch command and after each; a refused command changes nothing, and no word but 0x45 follows one.
abbrev after-commands : List ℕ → List Event → List Event
after-commands [] es = es
after-commands (c ∷ cs) es = command c ∷ after-commands cs es

abbrev one-sample : List Event
one-sample = two (pos 500) 2980 2980 4000 4000 ∷ []

pub follows-commands
    : map (λ cs. word_after replayed (past_of 2 (after-commands cs one-sample)) 0x45) ([] ∷ (1 ∷ []) ∷ (2 ∷ []) ∷ (3 ∷ []) ∷ (0 ∷ 3 ∷ []) ∷ (4 ∷ 3 ∷ []) ∷ [])
    ≡ (0x0000 ∷ 0x0100 ∷ 0x0200 ∷ 0x0300 ∷ 0x0000 ∷ 0x0300 ∷ [])
unfolding word_after row_of_command table sent_word pack_word with_switches with_bit_if with_bit has_bit past_of with_event sample_verdict sample_refusals within
    cells_fit trimmed each_to kept_cell command_verdict command_refusals raised_word_after blocks_after bits_of any_of raised row_at rows measure extremes_of
    best_of
follows-commands = refl

-- ---- protections by themselves and together, N and M 1: 0, 5 and 8 block charge, 1, 3, 6 and 9 discharge, 4 both, 2 and 7 only report

abbrev each : Settings
each =
    page-with 2 4200
    (limited (pos 4250) (pos 4150) 1 1 1
    ∷ limited (pos 3000) (pos 3100) 1 1 2
    ∷ limited (pos 900) (pos 800) 1 1 0
    ∷ limited (below_zero 900) (below_zero 800) 1 1 2
    ∷ limited (below_zero 2000) (below_zero 1900) 1 1 3
    ∷ limited (pos 3230) (pos 3130) 1 1 1
    ∷ limited (pos 3330) (pos 3230) 1 1 2
    ∷ limited (pos 3330) (pos 3230) 1 1 0
    ∷ limited (pos 2731) (pos 2832) 1 1 1
    ∷ limited (pos 2631) (pos 2732) 1 1 2
    ∷ [])

-- Status, mode, raised and switches, charging current and voltage: both are 0 where a raised one blocks charge, and stay where it blocks discharge.
abbrev seen : ℤ → ℕ → ℕ → ℕ → List ℕ
seen current t1 t2 cell = words each (two current t1 t2 cell 4000 ∷ command 3 ∷ []) (0x16 ∷ 0x41 ∷ 0x45 ∷ 0x14 ∷ 0x15 ∷ [])

pub by-themselves
    : (seen (pos 100) 2980 2980 4000
    ∷ seen (pos 99) 2980 2980 4000
    ∷ seen (pos 100) 2980 2980 4250
    ∷ seen (pos 100) 2980 2980 3000
    ∷ seen (pos 900) 2980 2980 4000
    ∷ seen (below_zero 900) 2980 2980 4000
    ∷ seen (below_zero 32768) 2980 2980 4000
    ∷ seen (pos 100) 3230 2980 4000
    ∷ seen (pos 100) 3330 2980 4000
    ∷ seen (pos 100) 2980 3330 4000
    ∷ seen (pos 900) 3330 3330 4250
    ∷ seen (pos 100) 2732 2980 4000
    ∷ seen (pos 100) 2731 2980 4000
    ∷ seen (pos 100) 2631 2980 4000
    ∷ seen (pos 900) 2631 3330 4250
    ∷ [])
    ≡ ((0x0080 ∷ 0x03 ∷ 0x0300 ∷ 1500 ∷ 8400 ∷ [])
    ∷ (0x00C0 ∷ 0x02 ∷ 0x0300 ∷ 1500 ∷ 8400 ∷ [])
    ∷ (0xC080 ∷ 0x15 ∷ 0x0201 ∷ 0 ∷ 0 ∷ [])
    ∷ (0x0880 ∷ 0x03 ∷ 0x0102 ∷ 1500 ∷ 8400 ∷ [])
    ∷ (0x0080 ∷ 0x12 ∷ 0x0304 ∷ 1500 ∷ 8400 ∷ [])
    ∷ (0x08C0 ∷ 0x13 ∷ 0x0108 ∷ 1500 ∷ 8400 ∷ [])
    ∷ (0x48C0 ∷ 0x14 ∷ 0x0018 ∷ 0 ∷ 0 ∷ [])
    ∷ (0x5080 ∷ 0x10 ∷ 0x0220 ∷ 0 ∷ 0 ∷ [])
    ∷ (0x5880 ∷ 0x11 ∷ 0x0060 ∷ 0 ∷ 0 ∷ [])
    ∷ (0x1080 ∷ 0x16 ∷ 0x0380 ∷ 1500 ∷ 8400 ∷ [])
    ∷ (0xD880 ∷ 0x12 ∷ 0x00E5 ∷ 0 ∷ 0 ∷ [])
    ∷ (0x0080 ∷ 0x03 ∷ 0x0300 ∷ 1500 ∷ 8400 ∷ [])
    ∷ (0x4080 ∷ 0x03 ∷ 0x0600 ∷ 0 ∷ 0 ∷ [])
    ∷ (0x4880 ∷ 0x03 ∷ 0x0C00 ∷ 0 ∷ 0 ∷ [])
    ∷ (0xD880 ∷ 0x12 ∷ 0x0C85 ∷ 0 ∷ 0 ∷ [])
    ∷ [])
unfolding word_after row_of_command table sent_word pack_word status_word heat_raised with_switches with_bit_if with_bit has_bit word_of past_of with_event
    sample_verdict sample_refusals within cells_fit trimmed each_to kept_cell command_verdict command_refusals mode_after first_mode mode_order
    raised_word_after blocks_after bits_of any_of raised row_at rows measure extremes_of best_of
by-themselves = refl

-- ---- by the page's own words: detection 150, charging voltage 4180 for each of seven cells, charging current 1700

abbrev by : ℤ → List ℕ
by current =
    words settings.unlike (offer (sampled 7 (3700 ∷ 3726 ∷ 3700 ∷ 3700 ∷ 3700 ∷ 3700 ∷ 3700 ∷ 0 ∷ 0 ∷ 0 ∷ []) current 2980 2980) ∷ [])
    (0x16 ∷ 0x41 ∷ 0x14 ∷ 0x15 ∷ 0x46 ∷ [])

pub by-words
    : (by (pos 150) ∷ by (pos 149) ∷ by (pos 100) ∷ by (pos 0) ∷ by (below_zero 1) ∷ [])
    ≡ ((0x0080 ∷ 0x03 ∷ 1700 ∷ 29260 ∷ 0x0002 ∷ [])
    ∷ (0x00C0 ∷ 0x02 ∷ 1700 ∷ 29260 ∷ 0 ∷ [])
    ∷ (0x00C0 ∷ 0x02 ∷ 1700 ∷ 29260 ∷ 0 ∷ [])
    ∷ (0x00C0 ∷ 0x02 ∷ 1700 ∷ 29260 ∷ 0 ∷ [])
    ∷ (0x00C0 ∷ 0x02 ∷ 1700 ∷ 29260 ∷ 0 ∷ [])
    ∷ [])
unfolding word_after row_of_command table sent_word pack_word status_word heat_raised with_bit has_bit word_of past_of with_event sample_verdict sample_refusals within
    cells_fit trimmed each_to kept_cell mode_after first_mode mode_order blocks_after any_raised_after any_of raised row_at rows measure extremes_of best_of bled_after
    bled_word_after wishes_after wish_at wishes volts_of wants
by-words = refl

-- ---- 0x46 of ten cells: "bit k - 1 for bled cell k", of all ten

-- Ten cells, K 5, and nothing that trips.
abbrev ten-page : Settings
ten-page = record { rules = record { n = 10; k = 5; r = 4; floor = record { 0 = 3900 }; difference = record { 0 = 10 }; detection = pos 100; voltage = record { 0 = 4200 }; current = pos 1500 }; limits = limited (pos 6000) (pos 5999) 2 2 0 ∷ never }

abbrev bled-of : List ℕ → ℕ
bled-of cells = word_after ten-page (past_of 10 (offer (sampled 10 cells (pos 100) 2980 2980) ∷ [])) 0x46

-- Cell 9 alone, cell 10 alone, the five odd ones, the five even ones.
pub ten-bled
    : (bled-of (4000 ∷ 4000 ∷ 4000 ∷ 4000 ∷ 4000 ∷ 4000 ∷ 4000 ∷ 4000 ∷ 4020 ∷ 4000 ∷ [])
    ∷ bled-of (4000 ∷ 4000 ∷ 4000 ∷ 4000 ∷ 4000 ∷ 4000 ∷ 4000 ∷ 4000 ∷ 4000 ∷ 4020 ∷ [])
    ∷ bled-of (4020 ∷ 4000 ∷ 4020 ∷ 4000 ∷ 4020 ∷ 4000 ∷ 4020 ∷ 4000 ∷ 4020 ∷ 4000 ∷ [])
    ∷ bled-of (4000 ∷ 4020 ∷ 4000 ∷ 4020 ∷ 4000 ∷ 4020 ∷ 4000 ∷ 4020 ∷ 4000 ∷ 4020 ∷ [])
    ∷ [])
    ≡ (0x0100 ∷ 0x0200 ∷ 0x0155 ∷ 0x02AA ∷ [])
unfolding word_after row_of_command table sent_word pack_word with_bit has_bit past_of with_event sample_verdict sample_refusals within cells_fit trimmed each_to kept_cell
    any_raised_after any_of raised row_at rows measure extremes_of best_of bled_after bled_word_after wishes_after wish_at wishes volts_of wants
ten-bled = refl

-- ---- ten unlike cells: 0x30 to 0x39 send cells 1 to 10, and a command that is not in the table sends 0

abbrev unlike : List ℕ
unlike = 4001 ∷ 4002 ∷ 4003 ∷ 4004 ∷ 4005 ∷ 4006 ∷ 4007 ∷ 4008 ∷ 4009 ∷ 4010 ∷ []

pub ten-unlike
    : words (page-with 10 4200 (limited (pos 6000) (pos 5999) 2 2 0 ∷ never)) (offer (sampled 10 unlike (pos 0) 2980 2980) ∷ [])
    (0x30 ∷ 0x31 ∷ 0x32 ∷ 0x33 ∷ 0x34 ∷ 0x35 ∷ 0x36 ∷ 0x37 ∷ 0x38 ∷ 0x39 ∷ 0x09 ∷ 0x3A ∷ 0x48 ∷ [])
    ≡ (4001 ∷ 4002 ∷ 4003 ∷ 4004 ∷ 4005 ∷ 4006 ∷ 4007 ∷ 4008 ∷ 4009 ∷ 4010 ∷ 40055 ∷ 0 ∷ 0 ∷ [])
unfolding word_after row_of_command table sent_word pack_word sum_to cell_word past_of with_event sample_verdict sample_refusals within cells_fit trimmed
    each_to kept_cell
ten-unlike = refl

-- ---- 0x47: the highest cell's number in the low byte, the lowest cell's in the high byte, of equal cells the lowest number

abbrev outermost : ℕ → List ℕ → ℕ
outermost n cells =
    word_after (page-with n 4200 (limited (pos 6000) (pos 5999) 2 2 0 ∷ never)) (past_of n (offer (sampled n cells (pos 0) 2980 2980) ∷ [])) 0x47

pub outermost-cells
    : (outermost 5 (4000 ∷ 4020 ∷ 4020 ∷ 3990 ∷ 3990 ∷ 6000 ∷ 0 ∷ 0 ∷ 0 ∷ 0 ∷ [])
    ∷ outermost 10 (4000 ∷ 4000 ∷ 4000 ∷ 4000 ∷ 4000 ∷ 4000 ∷ 4000 ∷ 4000 ∷ 4000 ∷ 4000 ∷ [])
    ∷ outermost 10 unlike
    ∷ outermost 10 (4100 ∷ 4001 ∷ 4002 ∷ 4003 ∷ 4004 ∷ 4005 ∷ 4006 ∷ 4007 ∷ 4008 ∷ 3900 ∷ [])
    ∷ outermost 2 (4000 ∷ 4020 ∷ 0 ∷ 0 ∷ 0 ∷ 0 ∷ 0 ∷ 0 ∷ 0 ∷ 0 ∷ [])
    ∷ outermost 2 (4020 ∷ 4000 ∷ 0 ∷ 0 ∷ 0 ∷ 0 ∷ 0 ∷ 0 ∷ 0 ∷ 0 ∷ [])
    ∷ [])
    ≡ (0x0402 ∷ 0x0101 ∷ 0x010A ∷ 0x0A01 ∷ 0x0102 ∷ 0x0201 ∷ [])
unfolding word_after row_of_command table sent_word pack_word numbers_word past_of with_event sample_verdict sample_refusals within cells_fit trimmed each_to
    kept_cell extremes_of best_of
outermost-cells = refl

-- ---- ten cells of 6000 mV: the sum and n × word 7 are 60000, and entries past n are no cells

abbrev ten-cells : List ℕ
ten-cells = 6000 ∷ 6000 ∷ 6000 ∷ 6000 ∷ 6000 ∷ 6000 ∷ 6000 ∷ 6000 ∷ 6000 ∷ 6000 ∷ []

pub largest : words (page-with 10 6000 (limited (pos 6000) (pos 5999) 2 2 0 ∷ never)) (offer (sampled 10 ten-cells (pos 0) 2980 2980) ∷ []) (0x09 ∷ 0x15 ∷ 0x39 ∷ [])
    ≡ (60000 ∷ 60000 ∷ 6000 ∷ [])
unfolding word_after row_of_command table sent_word pack_word sum_to cell_word has_bit past_of with_event sample_verdict sample_refusals within cells_fit
    trimmed each_to kept_cell blocks_after any_of raised row_at rows measure extremes_of best_of
largest = refl

pub past-the-count : words (page-with 3 6000 (limited (pos 6000) (pos 5999) 2 2 0 ∷ never)) (offer (sampled 3 ten-cells (pos 0) 2980 2980) ∷ []) (0x09 ∷ 0x15 ∷ 0x32 ∷ 0x33 ∷ [])
    ≡ (18000 ∷ 18000 ∷ 6000 ∷ 0 ∷ [])
unfolding word_after row_of_command table sent_word pack_word sum_to cell_word has_bit past_of with_event sample_verdict sample_refusals within cells_fit
    trimmed each_to kept_cell blocks_after any_of raised row_at rows measure extremes_of best_of
past-the-count = refl
