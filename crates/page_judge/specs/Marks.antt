-- "Word 0 reads 0xA417" or 0xA517 gives 2, otherwise not the mark 3: words below, above and beside the mark, and the mark itself, whose page
-- goes on to row 4. And pages to which several rows apply: the lowest number is given, with the lowest word at fault of its row.
-- Assumes nothing.
use Rattle.std.specs.Prelude.{◌≡◌, refl, List, [], ◌∷◌, map, ℕ, replicate}
use Rattle.crc.specs.CheckByte.{times_x, times_xs, with_byte, remainder, check_byte}
use Rattle.page_words.specs.Ranges.{word_at}
use Rattle.laws.specs.Numbered.{list_from}
use Rattle.units.specs.Signed.{signed_of}
use Rattle.protections.specs.Table.{row_at, table}
use Rattle.page_words.specs.Ranges.{within, degrees_fit, level_fits, level_of}
use Rattle.page_faults.specs.Kinds.{kind_of}
use Rattle.page_faults.specs.Met.{level_met, order_met, on_row, kind_meets, meets}
use Rattle.refusals.specs.Answers.{answer_of}
use Rattle.refusals.specs.Refusals.{answer}
use Rattle.page_judge.specs.Page.{refusals, judged}
use Rattle.page_judge.specs.Worked.{page_with, put}

-- A page that starts with these two bytes, 0 behind them.
abbrev starts : ℕ → ℕ → List ℕ
starts low high = low ∷ high ∷ replicate 126 0

abbrev numbers : List (List ℕ) → List ℕ
numbers pages = map (λ b. (answer_of (judged b)).number) pages

pub marks
    : numbers
    (starts 0x17 0xA4 ∷ starts 0xA3 0x17 ∷ starts 0xA5 0x17 ∷ starts 0xA4 0x16 ∷ starts 0xA4 0x18 ∷ starts 0 0 ∷ starts 0xFF 0xFF
    ∷ starts 0x16 0xA4 ∷ starts 0x18 0xA4 ∷ starts 0xA4 0x17 ∷ starts 0x17 0xA5 ∷ starts 0x17 0xA6 ∷ [])
    ≡ 2 ∷ 3 ∷ 3 ∷ 3 ∷ 3 ∷ 3 ∷ 3 ∷ 3 ∷ 3 ∷ 4 ∷ 2 ∷ 3 ∷ []
unfolding judged refusals word_at check_byte remainder with_byte times_xs times_x
marks = refl

-- 127 bytes that begin 17 A4 give 1. Word 15 not 0 and n 11 give 5; n 11 and N of protection 0 of 0 give 6; N of protection 7 of 0 and the
-- levels of protection 0 in the wrong order give 7, words 53 before 16; those levels alone give 8.
pub lowest
    : map (λ b. answer_of (judged b))
    ((0x17 ∷ 0xA4 ∷ replicate 125 0)
    ∷ page_with (put 15 1 ∷ put 1 11 ∷ [])
    ∷ page_with (put 1 11 ∷ put 18 0 ∷ [])
    ∷ page_with (put 53 0 ∷ put 16 4000 ∷ [])
    ∷ page_with (put 16 4000 ∷ [])
    ∷ page_with []
    ∷ [])
    ≡ answer 1 0 ∷ answer 5 15 ∷ answer 6 1 ∷ answer 7 53 ∷ answer 8 16 ∷ answer 0 0 ∷ []
unfolding judged refusals meets kind_of kind_meets on_row level_met order_met list_from word_at within degrees_fit level_fits level_of signed_of row_at table
    check_byte remainder with_byte times_xs times_x
lowest = refl
