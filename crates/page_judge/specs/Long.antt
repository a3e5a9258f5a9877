-- Verdicts on pages of 160 bytes, and on pages of 128 where document 02 speaks of them, computed.
-- Assumes nothing.
use Rattle.std.specs.Prelude.{◌≡◌, refl, List, [], ◌∷◌, ◌++◌, map, ℕ, take, set, replicate}
use Rattle.laws.specs.Numbered.{list_from}
use Rattle.units.specs.Signed.{signed_of}
use Rattle.crc.specs.CheckByte.{times_x, times_xs, with_byte, remainder, check_byte}
use Rattle.protections.specs.Table.{row_at, table}
use Rattle.page_words.specs.Ranges.{word_at, within, degrees_fit, level_fits, level_of}
use Rattle.page_faults.specs.Kinds.{long_layout, kind_of}
use Rattle.page_faults.specs.Met.{level_met, order_met, on_row, kind_meets, meets}
use Rattle.page_judge.specs.Page.{refusals, judged}
use Rattle.page_judge.specs.Walk.{lowest_word, faults_of}
use Rattle.page_judge.specs.Worked.{worked_page, long_page, put, minus_word, Change, changed, page_with, long_with}
use Rattle.refusals.specs.Verdicts.{Verdict, Accepted, Refused}

-- A page, and the verdict on it.
record Page : Type 0 where
  bytes : List ℕ
  verdict : Verdict

abbrev page : List ℕ → Verdict → Page
page b v = record { bytes = b; verdict = v }

abbrev wanted : List Page → List Verdict
wanted = map (λ (c : Page). c.verdict)

abbrev one : ℕ → ℕ → List Change
one w x = put w x ∷ []

-- ---- whole pages

-- "Refusal 1 is now given for a length other than 128 or 160, 2 also for 0xA517 and 3 if the mark doesn't fit the length."
unfoldable fronts : List Page
fronts =
    page long_page Accepted
    ∷ page worked_page Accepted
    ∷ page (take 144 long_page) (Refused 1 0)
    ∷ page (take 159 long_page) (Refused 1 0)
    ∷ page (long_page ++ 0 ∷ []) (Refused 1 0)
    ∷ page (worked_page ++ replicate 16 0) (Refused 1 0)
    ∷ page (take 128 long_page) (Refused 3 0)
    -- either mark read backwards, at either length, whatever the check byte is
    ∷ page (changed worked_page (one 0 0xA417)) (Refused 2 0)
    ∷ page (changed worked_page (one 0 0xA517)) (Refused 2 0)
    ∷ page (changed long_page (one 0 0xA417)) (Refused 2 0)
    ∷ page (changed long_page (one 0 0xA517)) (Refused 2 0)
    ∷ page (page_with (one 0 0xA517)) (Refused 2 0)
    -- the mark of the other length
    ∷ page (page_with (one 0 0x17A5)) (Refused 3 0)
    ∷ page (long_with (one 0 0x17A4)) (Refused 3 0)
    ∷ page (long_with (one 0 0x17A6)) (Refused 3 0)
    ∷ page (set long_page 159 0) (Refused 4 0)
    ∷ page (changed long_page (one 66 1)) (Refused 4 0)  -- 4 before 5
    -- with a check byte that fits, one of each row behind it
    ∷ page (long_with (one 79 1)) (Refused 5 79)  -- byte 158
    ∷ page (long_with (one 1 11)) (Refused 6 1)
    ∷ page (long_with (one 63 0)) (Refused 7 63)  -- N of protection 9, and byte 126
    ∷ page (long_with (one 63 240)) Accepted
    ∷ page (long_with (one 61 (minus_word 5))) (Refused 8 61)
    ∷ []

fronts-judged : map (λ (c : Page). judged c.bytes) fronts ≡ wanted fronts
unfolding fronts judged refusals meets kind_of kind_meets on_row level_met order_met list_from word_at within degrees_fit level_fits level_of signed_of row_at table
    check_byte remainder with_byte times_xs times_x
fronts-judged = refl

-- ---- rows 5 to 8, which are the verdict where length, mark and check byte fit

-- The page of 160 bytes with some words changed: no row refuses it, or row k does at word w.
abbrev taken : List Change → Page
taken cs = page (changed long_page cs) Accepted

abbrev refused : ℕ → ℕ → List Change → Page
refused k w cs = page (changed long_page cs) (Refused k w)

-- "Words 56 to 62 and byte 126 belong to protections there": 56 to 60 are those of 8, 61 to 65 those of 9, and byte 126 is in N of 9.
unfoldable words : List Page
words =
    refused 5 66 (one 66 1)
    ∷ refused 5 78 (one 78 0x0100)
    ∷ refused 5 79 (one 79 1)  -- byte 158
    ∷ refused 5 9 (put 79 1 ∷ put 66 1 ∷ put 9 1 ∷ [])  -- the lowest word
    ∷ refused 5 66 (put 63 0 ∷ put 66 1 ∷ [])  -- 5 before 7
    ∷ refused 6 1 (put 1 11 ∷ put 63 0 ∷ [])  -- 6 before 7
    -- 7: both ends of each word of the two
    ∷ refused 7 63 (one 63 0)
    ∷ taken (one 63 240)
    ∷ refused 7 63 (one 63 241)
    ∷ refused 7 58 (one 58 0)
    ∷ refused 7 59 (one 59 241)
    ∷ refused 7 64 (one 64 0)
    ∷ refused 7 60 (one 60 4)
    ∷ refused 7 65 (one 65 4)
    ∷ taken (put 58 1 ∷ put 59 240 ∷ put 60 3 ∷ put 63 1 ∷ put 64 240 ∷ put 65 0 ∷ [])
    ∷ taken (put 56 (minus_word 40) ∷ put 57 120 ∷ put 61 119 ∷ put 62 120 ∷ [])
    ∷ refused 7 56 (one 56 (minus_word 41))
    ∷ refused 7 57 (one 57 121)
    ∷ refused 7 61 (one 61 (minus_word 41))
    ∷ refused 7 62 (one 62 121)
    -- 8: a cold protection is released above its trip level; equal levels, and levels the other way round
    ∷ refused 8 56 (one 57 0)
    ∷ refused 8 56 (put 56 5 ∷ put 57 0 ∷ [])
    ∷ refused 8 61 (one 61 (minus_word 5))
    ∷ refused 8 61 (put 61 (minus_word 5) ∷ put 62 (minus_word 10) ∷ [])
    ∷ refused 8 51 (put 51 70 ∷ put 61 (minus_word 5) ∷ [])  -- the lowest word
    ∷ refused 7 65 (put 61 (minus_word 5) ∷ put 65 4 ∷ [])  -- 7 before 8
    ∷ []

words-judged : map (λ (c : Page). faults_of long_layout c.bytes) words ≡ wanted words
unfolding words faults_of lowest_word meets kind_of kind_meets on_row level_met order_met list_from word_at within degrees_fit level_fits level_of signed_of row_at table
words-judged = refl
