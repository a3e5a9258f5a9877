-- Worked lines, computed: what a reader can check by eye.
-- Assumes nothing.
use Rattle.std.specs.Prelude.{◌≡◌, refl, [], ◌∷◌, length, drop}
use Rattle.text_fields.specs.Quoted.{quoted}
use Rattle.text_fields.specs.Fields.{line_of}
use Rattle.text_fields.specs.Decimal.{decimal}
use Rattle.crc.specs.CheckByte.{check_byte, remainder, with_byte, times_xs, times_x}
use Rattle.page_settings.specs.Cases.{worked}
use Rattle.sample.specs.Cases.{below_zero, sampled}
use Rattle.units.specs.Signed.{word_of}
use Rattle.pack_state.specs.declared.Pack.{Pack}
use Rattle.pack_state.specs.Past.{past}
use Rattle.pack_state.specs.State.{fresh_pack, state_after}
use Rattle.pack_shown.specs.Shown.{mode_of}
use Rattle.bus_table.specs.Table.{row_of_command, table}
use Rattle.bus_words.specs.Words.{sent_word, pack_word, cell_word, sum_to}
use Rattle.bus.specs.Replies.{not_in_table, cell_above, reply_refusals, answer_for, answer_to, buffer_of, frame_of}
use Rattle.bus.specs.Replied.{Sent, Refused}
use Rattle.bus_lines.specs.Lines.{hex_digit, hex_byte, hex_bytes, line_for, answer_text, word_line, lines_to, word_lines, words_text, roomed_lines, roomed}

-- 0x00, 0x09, 0x4a and 0xff
pub bytes : hex_bytes (0 ∷ 9 ∷ 0x4a ∷ 255 ∷ []) ≡ quoted "00094aff"
unfolding hex_bytes hex_byte hex_digit
bytes = refl

-- mode 0x15 and its check byte, and two refusals
pub answers : (line_for 0x41 Sent (0x15 ∷ 0 ∷ 0x6d ∷ []) ≡ quoted "41\t15006d\n")
    × (line_for 0x3a (Refused 13) (0 ∷ 0 ∷ 0 ∷ []) ≡ quoted "3a\trefused\t13\n")
    × (line_for 5 (Refused 12) (0 ∷ 0 ∷ 0 ∷ []) ≡ quoted "05\trefused\t12\n")
unfolding line_for line_of hex_bytes hex_byte hex_digit decimal
answers = (refl, refl, refl)

-- the first two lines of any pack, in this order
pub first-lines : (p : Pack) → word_lines p 2 ≡ quoted "00\trefused\t12\n01\trefused\t12\n"
unfolding lines_to word_line line_for line_of hex_byte hex_digit decimal answer_to answer_for reply_refusals not_in_table row_of_command
first-lines p = refl

-- ---- commands that are sent, and all 256

-- "Mode: 0 before the first sample": 0x41 is sent.
pub mode-before : word_line (fresh_pack worked) 0x41 ≡ quoted "41\t000040\n"
unfolding word_line line_for line_of hex_bytes hex_byte hex_digit answer_to answer_for reply_refusals not_in_table cell_above row_of_command table buffer_of frame_of sent_word
    pack_word mode_of fresh_pack check_byte remainder with_byte times_xs times_x
mode-before = refl

-- Cells of 4000 and 4020 mV, their sum, and a current of -2, after one sample.
abbrev one : Pack
one = state_after worked (past (sampled 2 (4000 ∷ 4020 ∷ 0 ∷ 0 ∷ 0 ∷ 0 ∷ 0 ∷ 0 ∷ 0 ∷ 0 ∷ []) (below_zero 2) 2980 2980 ∷ []) 0)

pub words-after : (word_line one 0x30 ≡ quoted "30\ta00f51\n")
    × (word_line one 0x31 ≡ quoted "31\tb40f44\n")
    × (word_line one 0x09 ≡ quoted "09\t541f6e\n")
    × (word_line one 0x0A ≡ quoted "0a\tfeff60\n")
    × (word_line one 0x32 ≡ quoted "32\trefused\t13\n")
unfolding word_line line_for line_of hex_bytes hex_byte hex_digit decimal answer_to answer_for reply_refusals not_in_table cell_above row_of_command table buffer_of frame_of
    sent_word pack_word sum_to cell_word word_of state_after check_byte remainder with_byte times_xs times_x
words-after = (refl, refl, refl, refl, refl)

-- What stands behind the command, as the code writes it.
pub texts : (answer_text Sent (0x15 ∷ 0 ∷ 0x6d ∷ []) ≡ quoted "15006d") × (answer_text (Refused 13) (0 ∷ 0 ∷ 0 ∷ []) ≡ quoted "refused\t13")
unfolding hex_bytes hex_byte hex_digit decimal
texts = (refl, refl)

-- 255 lines of 14 bytes and one of 10; the last two; and a buffer a byte too short.
pub all-lines : (drop 3552 (words_text (fresh_pack worked)) ≡ quoted "fe\trefused\t12\nff\trefused\t12\n")
    × (length (roomed 3840 (fresh_pack worked)) ≡ 3580)
    × (roomed 3839 (fresh_pack worked) ≡ [])
unfolding roomed_lines lines_to word_line line_for line_of hex_bytes hex_byte hex_digit decimal answer_to answer_for reply_refusals not_in_table cell_above row_of_command table
    buffer_of frame_of sent_word pack_word mode_of fresh_pack check_byte remainder with_byte times_xs times_x
all-lines = (refl, refl, refl)
