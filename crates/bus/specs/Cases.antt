-- Computed cases: document 01's starred frames, which commands are in the table, and the refusals 12 to 15.
-- Assumes nothing.
use Rattle.std.specs.Prelude.{◌≡◌, refl, Bool, true, false, not, cond, List, [], ◌∷◌, map, ℕ, pos, replicate}
use Rattle.crc.specs.CheckByte.{check_byte, remainder, with_byte, times_xs, times_x}
use Rattle.laws.specs.Numbered.{count_from}
use Rattle.units.specs.Signed.{word_of}
use Rattle.refusals.specs.Refusals.{answer, given}
use Rattle.page_settings.specs.declared.Settings.{Settings}
use Rattle.sample.specs.declared.Sample.{Sample}
use Rattle.sample.specs.Cases.{below_zero, sampled}
use Rattle.pack_state.specs.Past.{past}
use Rattle.pack_state.specs.State.{state_after, fresh_pack}
use Rattle.bus_table.specs.Table.{table, row_of_command}
use Rattle.bus_words.specs.Words.{sent_word, cell_word, word_after}
use Rattle.bus.specs.Replies.{not_in_table, cell_above, reply_refusals, answer_for, answer_after, buffer_after, frame_of, bytes_of, answer_of_reply, refusals_of, answer_to, buffer_of}

-- ---- (*) "Current -2 is sent as FE FF; -32768 as 00 80", with their check bytes

pub starred-minus-2 : bytes_of (frame_of 0x0A (word_of (below_zero 2))) ≡ (0xFE ∷ 0xFF ∷ 0x60 ∷ [])
unfolding frame_of word_of check_byte remainder with_byte times_xs times_x
starred-minus-2 = refl

pub starred-minus-32768 : bytes_of (frame_of 0x0A (word_of (below_zero 32768))) ≡ (0x00 ∷ 0x80 ∷ 0xD8 ∷ [])
unfolding frame_of word_of check_byte remainder with_byte times_xs times_x
starred-minus-32768 = refl

-- ---- the table

-- The commands of a list for which a test holds.
abbrev those : (ℕ → Bool) → List ℕ → List ℕ
those test [] = []
those test (c ∷ cs) = cond (test c) (c ∷ those test cs) (those test cs)

abbrev cell-commands : List ℕ
cell-commands = 0x30 ∷ 0x31 ∷ 0x32 ∷ 0x33 ∷ 0x34 ∷ 0x35 ∷ 0x36 ∷ 0x37 ∷ 0x38 ∷ 0x39 ∷ []

-- Which of the 256 commands are in the table.
pub commands : those (λ c. not (not_in_table (row_of_command c))) (count_from 0 256)
    ≡ (0x08 ∷ 0x09 ∷ 0x0A ∷ 0x14 ∷ 0x15 ∷ 0x16 ∷ 0x30 ∷ 0x31 ∷ 0x32 ∷ 0x33 ∷ 0x34 ∷ 0x35 ∷ 0x36 ∷ 0x37 ∷ 0x38 ∷ 0x39 ∷ 0x41 ∷ 0x42 ∷ 0x44 ∷ 0x45 ∷ 0x46 ∷ 0x47 ∷ [])
unfolding row_of_command table not_in_table
commands = refl

-- ---- refusals

-- The answers to some commands of a pack of n cells, at a buffer of `room` bytes.
abbrev answers : ℕ → Bool → ℕ → List ℕ → List ℕ
answers n sampled room cs = map (λ c. (answer_of_reply (answer_for n sampled c room)).number) cs

-- A command that is not in the table gives 12, whatever the buffer, before a sample and after one.
pub not-in-table : answers 10 true 3 (0x3A ∷ 0x3F ∷ 0x40 ∷ 0x43 ∷ 0x48 ∷ 0x00 ∷ 0xFF ∷ []) ≡ replicate 7 12
unfolding answer_for reply_refusals row_of_command table not_in_table cell_above
not-in-table = refl

pub not-in-table-first : answers 2 false 0 (0x3A ∷ 0x3F ∷ 0x40 ∷ 0x43 ∷ 0x48 ∷ 0x00 ∷ 0xFF ∷ []) ≡ replicate 7 12
unfolding answer_for reply_refusals row_of_command table not_in_table cell_above
not-in-table-first = refl

-- "Cell command for a cell above n" gives 13: cells 1 to 10 of a pack of n cells, for each n from 2 to 10,
pub cell-above
    : map (λ n. answers n true 3 cell-commands) (2 ∷ 3 ∷ 4 ∷ 5 ∷ 6 ∷ 7 ∷ 8 ∷ 9 ∷ 10 ∷ [])
    ≡ ((0 ∷ 0 ∷ 13 ∷ 13 ∷ 13 ∷ 13 ∷ 13 ∷ 13 ∷ 13 ∷ 13 ∷ [])
    ∷ (0 ∷ 0 ∷ 0 ∷ 13 ∷ 13 ∷ 13 ∷ 13 ∷ 13 ∷ 13 ∷ 13 ∷ [])
    ∷ (0 ∷ 0 ∷ 0 ∷ 0 ∷ 13 ∷ 13 ∷ 13 ∷ 13 ∷ 13 ∷ 13 ∷ [])
    ∷ (0 ∷ 0 ∷ 0 ∷ 0 ∷ 0 ∷ 13 ∷ 13 ∷ 13 ∷ 13 ∷ 13 ∷ [])
    ∷ (0 ∷ 0 ∷ 0 ∷ 0 ∷ 0 ∷ 0 ∷ 13 ∷ 13 ∷ 13 ∷ 13 ∷ [])
    ∷ (0 ∷ 0 ∷ 0 ∷ 0 ∷ 0 ∷ 0 ∷ 0 ∷ 13 ∷ 13 ∷ 13 ∷ [])
    ∷ (0 ∷ 0 ∷ 0 ∷ 0 ∷ 0 ∷ 0 ∷ 0 ∷ 0 ∷ 13 ∷ 13 ∷ [])
    ∷ (0 ∷ 0 ∷ 0 ∷ 0 ∷ 0 ∷ 0 ∷ 0 ∷ 0 ∷ 0 ∷ 13 ∷ [])
    ∷ (0 ∷ 0 ∷ 0 ∷ 0 ∷ 0 ∷ 0 ∷ 0 ∷ 0 ∷ 0 ∷ 0 ∷ [])
    ∷ [])
unfolding answer_for reply_refusals row_of_command table not_in_table cell_above
cell-above = refl

-- also before a sample and whatever the buffer;
pub cell-above-first : answers 4 false 2 (0x33 ∷ 0x34 ∷ 0x39 ∷ []) ≡ (14 ∷ 13 ∷ 13 ∷ [])
unfolding answer_for reply_refusals row_of_command table not_in_table cell_above
cell-above-first = refl

-- and no other command is one for a cell.
pub cells-alone : those (λ c. cell_above 0 (row_of_command c)) (count_from 0 256) ≡ cell-commands
unfolding row_of_command table cell_above
cells-alone = refl

-- A buffer of two bytes or of four gives 14, 0x41 before a sample too.
pub wrong-buffer : answers 10 false 2 (0x41 ∷ 0x45 ∷ 0x47 ∷ 0x30 ∷ []) ≡ (14 ∷ 14 ∷ 14 ∷ 14 ∷ [])
unfolding answer_for reply_refusals row_of_command table not_in_table cell_above
wrong-buffer = refl

pub long-buffer : answers 10 true 4 (0x41 ∷ 0x45 ∷ 0x47 ∷ 0x30 ∷ []) ≡ (14 ∷ 14 ∷ 14 ∷ 14 ∷ [])
unfolding answer_for reply_refusals row_of_command table not_in_table cell_above
long-buffer = refl

-- Before the first sample 0x41 alone is answered: each of the 256 commands, sixteen to a line.
pub no-sample
    : answers 10 false 3 (count_from 0 256)
    ≡ (12 ∷ 12 ∷ 12 ∷ 12 ∷ 12 ∷ 12 ∷ 12 ∷ 12 ∷ 15 ∷ 15 ∷ 15 ∷ 12 ∷ 12 ∷ 12 ∷ 12 ∷ 12
    ∷ 12 ∷ 12 ∷ 12 ∷ 12 ∷ 15 ∷ 15 ∷ 15 ∷ 12 ∷ 12 ∷ 12 ∷ 12 ∷ 12 ∷ 12 ∷ 12 ∷ 12 ∷ 12
    ∷ 12 ∷ 12 ∷ 12 ∷ 12 ∷ 12 ∷ 12 ∷ 12 ∷ 12 ∷ 12 ∷ 12 ∷ 12 ∷ 12 ∷ 12 ∷ 12 ∷ 12 ∷ 12
    ∷ 15 ∷ 15 ∷ 15 ∷ 15 ∷ 15 ∷ 15 ∷ 15 ∷ 15 ∷ 15 ∷ 15 ∷ 12 ∷ 12 ∷ 12 ∷ 12 ∷ 12 ∷ 12
    ∷ 12 ∷ 0 ∷ 15 ∷ 12 ∷ 15 ∷ 15 ∷ 15 ∷ 15 ∷ replicate 184 12)
unfolding answer_for reply_refusals row_of_command table not_in_table cell_above
no-sample = refl

-- ---- of a page and a past

-- n, K and R are unlike: it is n that a cell may not be above.
abbrev page : Settings
page =
    record {
      rules = record {
        n = 4;
        k = 1;
        r = 2;
        floor = record { 0 = 3900 };
        difference = record { 0 = 10 };
        detection = pos 100;
        voltage = record { 0 = 4200 };
        current = pos 1500;
      };
      limits = [];
    }

abbrev four : Sample
four = sampled 4 (4001 ∷ 4002 ∷ 4003 ∷ 4004 ∷ 0 ∷ 0 ∷ 0 ∷ 0 ∷ 0 ∷ 0 ∷ []) (pos 0) 2980 2980

pub of-a-page
    : (map (λ c. (answer_of_reply (answer_after page (past (four ∷ []) 0) c 3)).number) cell-commands
    ∷ map (λ c. (answer_of_reply (answer_after page (past [] 3) c 3)).number) (0x41 ∷ 0x45 ∷ 0x47 ∷ 0x33 ∷ 0x34 ∷ [])
    ∷ [])
    ≡ ((0 ∷ 0 ∷ 0 ∷ 0 ∷ 13 ∷ 13 ∷ 13 ∷ 13 ∷ 13 ∷ 13 ∷ []) ∷ (0 ∷ 15 ∷ 15 ∷ 15 ∷ 13 ∷ []) ∷ [])
unfolding answer_after answer_for reply_refusals row_of_command table not_in_table cell_above
of-a-page = refl

-- "The others name word 0."
pub word-0
    : map answer_of_reply (answer_for 2 true 0x3A 3 ∷ answer_for 2 true 0x32 3 ∷ answer_for 2 true 0x31 2 ∷ answer_for 2 false 0x31 3 ∷ answer_for 2 true 0x31 3 ∷ [])
    ≡ (answer 12 0 ∷ answer 13 0 ∷ answer 14 0 ∷ answer 15 0 ∷ answer 0 0 ∷ [])
unfolding answer_for reply_refusals row_of_command table not_in_table cell_above
word-0 = refl

-- A pack without a page.
pub no-page : answers 0 false 3 (0x41 ∷ 0x45 ∷ 0x47 ∷ 0x30 ∷ 0x39 ∷ 0x3A ∷ []) ≡ (0 ∷ 15 ∷ 15 ∷ 13 ∷ 13 ∷ 12 ∷ [])
unfolding answer_for reply_refusals row_of_command table not_in_table cell_above
no-page = refl

-- ---- the buffer: the three bytes of cell 2, 4002 mV; and as it was after each refusal, 12 to 15, whatever its length

abbrev buffers : (ℕ → List ℕ → List ℕ) → List (List ℕ)
buffers after = after 0x31 (7 ∷ 8 ∷ 9 ∷ []) ∷ after 0x3A (7 ∷ 8 ∷ 9 ∷ []) ∷ after 0x34 (7 ∷ 8 ∷ 9 ∷ []) ∷ after 0x31 (7 ∷ 8 ∷ []) ∷ after 0x31 [] ∷ []

abbrev afterwards : List (List ℕ)
afterwards = (0xA2 ∷ 0x0F ∷ 0x6D ∷ []) ∷ (7 ∷ 8 ∷ 9 ∷ []) ∷ (7 ∷ 8 ∷ 9 ∷ []) ∷ (7 ∷ 8 ∷ []) ∷ [] ∷ []

pub buffers-said : (buffers (buffer_after page (past (four ∷ []) 0)) ≡ afterwards) × (buffer_after page (past [] 0) 0x31 (7 ∷ 8 ∷ 9 ∷ []) ≡ 7 ∷ 8 ∷ 9 ∷ [])
unfolding buffer_after answer_after answer_for reply_refusals row_of_command table not_in_table cell_above frame_of word_after sent_word cell_word check_byte remainder
    with_byte times_xs times_x
buffers-said = (refl, refl)

pub buffers-of-a-state
    : (buffers (buffer_of (state_after page (past (four ∷ []) 0))) ≡ afterwards) × (buffer_of (fresh_pack page) 0x31 (7 ∷ 8 ∷ 9 ∷ []) ≡ 7 ∷ 8 ∷ 9 ∷ [])
unfolding buffer_of answer_to answer_for reply_refusals row_of_command table not_in_table cell_above frame_of sent_word cell_word state_after fresh_pack check_byte
    remainder with_byte times_xs times_x
buffers-of-a-state = (refl, refl)

-- "The others name word 0": the table of a state, 12 to 15.
pub numbers-of-a-state
    : (given (refusals_of (fresh_pack page) 0x3A 3) ∷ given (refusals_of (fresh_pack page) 0x34 2) ∷ given (refusals_of (fresh_pack page) 0x33 2)
    ∷ given (refusals_of (fresh_pack page) 0x33 3) ∷ given (refusals_of (fresh_pack page) 0x41 3) ∷ [])
    ≡ (answer 12 0 ∷ answer 13 0 ∷ answer 14 0 ∷ answer 15 0 ∷ answer 0 0 ∷ [])
unfolding reply_refusals row_of_command table not_in_table cell_above fresh_pack
numbers-of-a-state = refl
