-- "There is no other reason to refuse": pages that look odd and are accepted, computed. Each is the worked page, or the page of 160 bytes, with
-- some words changed and its check byte made to fit.
-- Assumes nothing.
use Rattle.std.specs.Prelude.{◌≡◌, refl, List, [], ◌∷◌, map, ℕ, replicate}
use Rattle.laws.specs.Numbered.{list_from}
use Rattle.units.specs.Signed.{signed_of}
use Rattle.crc.specs.CheckByte.{times_x, times_xs, with_byte, remainder, check_byte}
use Rattle.protections.specs.Table.{row_at, table}
use Rattle.page_words.specs.Ranges.{word_at, within, degrees_fit, level_fits, level_of}
use Rattle.page_faults.specs.Kinds.{kind_of}
use Rattle.page_faults.specs.Met.{level_met, order_met, on_row, kind_meets, meets}
use Rattle.refusals.specs.Verdicts.{Accepted}
use Rattle.page_judge.specs.Page.{refusals, judged}
use Rattle.page_judge.specs.Worked.{put, minus_word, page_with, long_with}

unfoldable pages : List (List ℕ)
pages =
    page_with (put 1 2 ∷ put 2 5 ∷ [])  -- K above n
    ∷ page_with (put 4 6000 ∷ put 5 6000 ∷ [])  -- floor plus difference above 6000
    ∷ page_with (put 6 32767 ∷ [])  -- detection above the over charge trip
    ∷ page_with (put 16 1 ∷ put 17 0 ∷ [])  -- over voltage always trips
    ∷ page_with (put 16 6000 ∷ put 17 5999 ∷ put 21 0 ∷ put 22 1 ∷ [])  -- neither voltage does in common use
    ∷ page_with (put 21 5000 ∷ put 22 5001 ∷ [])  -- under voltage above over voltage
    ∷ page_with (put 26 (minus_word 300) ∷ put 27 (minus_word 301) ∷ [])  -- over charge below 0 mA
    ∷ page_with (put 31 5 ∷ put 32 6 ∷ [])  -- over discharge above 0 mA
    ∷ page_with (put 36 (minus_word 10) ∷ put 37 (minus_word 5) ∷ [])  -- the short trip earlier than the over discharge trip
    ∷ page_with (put 41 100 ∷ put 42 99 ∷ [])  -- charge over heat later than discharge over heat
    ∷ page_with (put 7 0 ∷ put 8 0 ∷ put 4 0 ∷ [])  -- no charging voltage, no charging current, no floor
    ∷ long_with (put 56 (minus_word 20) ∷ put 57 (minus_word 19) ∷ put 61 110 ∷ put 62 111 ∷ [])  -- discharge cold above charge over heat
    ∷ []

odd-accepted : map judged pages ≡ replicate 12 Accepted
unfolding pages judged refusals meets kind_of kind_meets on_row level_met order_met list_from word_at within degrees_fit level_fits level_of signed_of row_at table
    check_byte remainder with_byte times_xs times_x
odd-accepted = refl
