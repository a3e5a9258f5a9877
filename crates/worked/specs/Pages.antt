-- Pages worked by hand: the verdict on each is the one that document 01 asks for.
-- Assumes nothing.
use Rattle.std.specs.Prelude.{◌≡◌, refl, Ok, Err, Bool, true, false, ◌&&◌, List, [], ◌∷◌, ◌++◌, map, ℕ, ◌+◌, eqb, length, get_or, take, set}
use Rattle.std.proofs.Common.{sym, ap₂, ◌∙◌, true≢false, arith, eqb-true, eq-eqb, length-set, get_or-set_same, get_or-set_other}
use Rattle.std.proofs.lemmas.List.{take-set-le}
use Rattle.laws.specs.Numbered.{count_from, list_from}
use Rattle.laws.specs.Tests.{and-left, and-right}
use Rattle.units.specs.Signed.{signed_of}
use Rattle.crc.specs.CheckByte.{times_x, times_xs, with_byte, remainder, check_byte}
use Rattle.protections.specs.Table.{row_at, table}
use Rattle.page_words.specs.Ranges.{word_at, within, degrees_fit, level_fits, level_of}
use Rattle.page_judge.specs.Page.{refusals, judged}
use Rattle.page_faults.specs.Kinds.{short_layout, trip_word, kind_of}
use Rattle.page_faults.specs.Met.{level_met, order_met, on_row, kind_meets, meets}
use Rattle.page_judge.specs.Walk.{lowest_word, faults_of, judged-is}
use Rattle.page_judge.specs.Swapped.{swapped}
use Rattle.page_judge.specs.Worked.{worked_page, put, minus_word, Change, changed, sealed, page_with}
use Rattle.refusals.specs.Verdicts.{Verdict, Accepted, Refused}

-- Whether two verdicts are the same.
abbrev agree : Verdict → Verdict → Bool
agree (Ok done) (Ok done') = true
agree (Ok done) (Err s) = false
agree (Err r) (Ok done) = false
agree (Err r) (Err s) = eqb r.number s.number && eqb r.word s.word

agree-same : (x y : Verdict) → agree x y ≡ true → x ≡ y
agree-same (Ok done) (Ok done') e = refl
agree-same (Ok done) (Err s) e = absurd (true≢false (sym e))
agree-same (Err r) (Ok done) e = absurd (true≢false (sym e))
agree-same (Err r) (Err s) e =
    ap₂ Refused
    (eqb-true r.number s.number (and-left (eqb r.number s.number) (eqb r.word s.word) e))
    (eqb-true r.word s.word (and-right (eqb r.number s.number) (eqb r.word s.word) e))

-- ---- pages as they stand

record Page : Type 0 where
  bytes : List ℕ
  verdict : Verdict

abbrev page : List ℕ → Verdict → Page
page b v = record { bytes = b; verdict = v }

abbrev one : ℕ → ℕ → List Change
one w x = put w x ∷ []

unfoldable pages : List Page
pages =
    page worked_page Accepted
    ∷ page [] (Refused 1 0)
    ∷ page (take 127 worked_page) (Refused 1 0)
    ∷ page (worked_page ++ 0 ∷ []) (Refused 1 0)
    ∷ page (swapped worked_page) (Refused 2 0)  -- it begins 17 A4
    ∷ page (changed worked_page (one 0 0xA417)) (Refused 2 0)
    ∷ page (page_with (one 0 0x17A5)) (Refused 3 0)
    ∷ page (set worked_page 127 0) (Refused 4 0)
    ∷ page (changed worked_page (one 9 1)) (Refused 4 0)  -- 4 before 5
    ∷ page (page_with (one 9 1)) (Refused 5 9)
    ∷ page (page_with (one 1 1)) (Refused 6 1)
    ∷ page (page_with (one 18 0)) (Refused 7 18)
    ∷ page (page_with (one 16 4150)) (Refused 8 16)
    ∷ []

abbrev all_judged : List Page → Bool
all_judged [] = true
all_judged (c ∷ cs) = agree (judged c.bytes) c.verdict && all_judged cs

pages-judged : all_judged pages ≡ true
unfolding pages judged refusals meets kind_of kind_meets on_row level_met order_met list_from word_at within degrees_fit level_fits level_of signed_of row_at table check_byte remainder with_byte times_xs times_x
pages-judged = refl

-- ---- words of the worked page changed, and its check byte made to fit

record Case : Type 0 where
  changes : List Change
  verdict : Verdict

abbrev taken : List Change → Case
taken cs = record { changes = cs; verdict = Accepted }

abbrev refused : ℕ → ℕ → List Change → Case
refused k w cs = record { changes = cs; verdict = Refused k w }

-- Each of the words w alone holds x, and is named by refusal k.
abbrev each : ℕ → ℕ → List ℕ → List Case
each k x = map (λ (w : ℕ). refused k w (one w x))

abbrev reserved : List ℕ
reserved = count_from 9 7 ++ count_from 56 7

-- The levels of the cells and of the temperatures; word f of every protection.
abbrev cell_levels : List ℕ
cell_levels = 16 ∷ 17 ∷ 21 ∷ 22 ∷ []

abbrev heat_levels : List ℕ
heat_levels = 41 ∷ 42 ∷ 46 ∷ 47 ∷ 51 ∷ 52 ∷ []

abbrev words : ℕ → List ℕ
words f = map (λ (p : ℕ). trip_word p + f) (count_from 0 8)

abbrev all : ℕ → ℕ → List Change
all f x = map (λ (w : ℕ). put w x) (words f)

-- One word of each kind at both sides of each of its ends.
abbrev ends : List Case
ends =
    each 5 0x0001 reserved ++ each 5 0x0100 reserved
    ++ each 7 6001 cell_levels
    ++ each 7 121 heat_levels ++ each 7 (minus_word 41) heat_levels
    ++ each 7 0 (words 2) ++ each 7 241 (words 2)
    ++ each 7 0 (words 3) ++ each 7 241 (words 3)
    ++ each 7 4 (words 4)
    ++ taken (all 2 1 ++ all 3 240 ++ all 4 0)
    ∷ taken (all 2 240 ++ all 3 1 ++ all 4 3)
    ∷ taken (put 41 120 ∷ put 42 119 ∷ put 46 120 ∷ put 47 119 ∷ put 51 120 ∷ put 52 119 ∷ [])
    ∷ taken (put 41 (minus_word 39) ∷ put 42 (minus_word 40) ∷ put 46 (minus_word 39) ∷ put 47 (minus_word 40) ∷ put 51 (minus_word 39) ∷ put 52 (minus_word 40) ∷ [])
    ∷ []

unfoldable cases : List Case
cases =
    ends
    ++ refused 5 63 (one 63 1)  -- 5: byte 126
    ∷ refused 5 62 (put 1 11 ∷ put 62 1 ∷ [])  -- 5 before 6
    ∷ refused 5 9 (put 63 1 ∷ put 62 1 ∷ put 9 1 ∷ [])  -- the lowest word
    -- 6: both ends of words 1 to 8
    ∷ taken (put 1 2 ∷ put 2 1 ∷ put 3 1 ∷ put 4 0 ∷ put 5 1 ∷ put 6 1 ∷ put 7 0 ∷ put 8 0 ∷ [])
    ∷ taken (put 1 10 ∷ put 2 5 ∷ put 3 240 ∷ put 4 6000 ∷ put 5 6000 ∷ put 6 32767 ∷ put 7 6000 ∷ put 8 32767 ∷ [])
    ∷ refused 6 1 (one 1 1)
    ∷ refused 6 1 (one 1 11)
    ∷ refused 6 2 (one 2 0)
    ∷ refused 6 2 (one 2 6)
    ∷ refused 6 3 (one 3 0)
    ∷ refused 6 3 (one 3 241)
    ∷ refused 6 4 (one 4 6001)
    ∷ refused 6 5 (one 5 0)
    ∷ refused 6 5 (one 5 6001)
    ∷ refused 6 6 (one 6 0)
    ∷ refused 6 6 (one 6 32768)
    ∷ refused 6 7 (one 7 6001)
    ∷ refused 6 8 (one 8 32768)
    ∷ refused 6 8 (put 8 40000 ∷ put 16 6001 ∷ [])  -- 6 before 7
    -- 7: the levels
    ∷ taken (put 16 6000 ∷ put 17 0 ∷ put 18 1 ∷ put 19 1 ∷ put 20 0 ∷ [])
    ∷ taken (put 21 0 ∷ put 22 6000 ∷ put 23 240 ∷ put 24 240 ∷ put 25 3 ∷ [])
    ∷ refused 7 16 (one 16 0x9A10)  -- 4250 read backwards
    ∷ taken (put 26 1 ∷ put 27 (minus_word 1) ∷ put 31 (minus_word 32768) ∷ put 32 1 ∷ put 36 (minus_word 32768) ∷ put 37 (minus_word 1) ∷ [])
    ∷ taken (put 26 32767 ∷ put 27 (minus_word 32768) ∷ put 31 (minus_word 1) ∷ put 32 32767 ∷ [])
    ∷ refused 7 55 (put 16 4150 ∷ put 55 4 ∷ [])  -- 7 before 8
    -- 8: equal levels, and levels the other way round, in each direction
    ∷ refused 8 16 (one 16 4150)
    ∷ refused 8 16 (put 16 4150 ∷ put 17 4250 ∷ [])
    ∷ refused 8 21 (one 21 2600)
    ∷ refused 8 21 (one 21 2601)
    ∷ refused 8 26 (put 26 (minus_word 1) ∷ put 27 1 ∷ [])
    ∷ refused 8 31 (one 31 (minus_word 4000))
    ∷ refused 8 36 (put 36 1 ∷ put 37 (minus_word 1) ∷ [])
    ∷ refused 8 41 (one 41 40)
    ∷ refused 8 46 (put 46 (minus_word 1) ∷ put 47 0 ∷ [])
    ∷ refused 8 51 (one 51 70)
    ∷ refused 8 26 (put 51 70 ∷ put 26 2500 ∷ [])  -- the lowest word
    ∷ []

-- A page with the right length, mark and check byte is judged by rows 5 to 8.
sealed-mark : (b : List ℕ) (x : ℕ) → word_at (set b 127 x) 0 ≡ word_at b 0
unfolding word_at
sealed-mark b x = rw (get_or-set_other b 127 0 x 0 (λ e. omega arith), get_or-set_other b 127 1 x 0 (λ e. omega arith))

sealed-judged : (b : List ℕ) → length b ≡ 128 → word_at b 0 ≡ 0x17A4 → judged (sealed b) ≡ faults_of short_layout (sealed b)
sealed-judged b h m =
    let x = check_byte (take 127 b) in
    let size : length (set b 127 x) ≡ 128 = length-set b 127 x ∙ h in
    let check : get_or (set b 127 x) 127 0 ≡ x = get_or-set_same b 127 x 0 (omega arith) in
    let before : take 127 (set b 127 x) ≡ take 127 b = take-set-le 127 b 127 x (omega arith) in
    rw (judged-is, size, sealed-mark b x, m, check, before, eq-eqb x x refl)

abbrev fits : Case → Bool
fits c =
    let b = changed worked_page c.changes in
    eqb (length b) 128 && (eqb (word_at b 0) 0x17A4 && agree (faults_of short_layout (sealed b)) c.verdict)

abbrev all_fit : List Case → Bool
all_fit [] = true
all_fit (c ∷ cs) = fits c && all_fit cs

cases-fit : all_fit cases ≡ true
unfolding cases faults_of lowest_word meets kind_of kind_meets on_row level_met order_met list_from word_at within degrees_fit
    level_fits level_of signed_of row_at table
cases-fit = refl

abbrev AllJudged : List Case → Type 0
AllJudged [] = Unit {0}
AllJudged (c ∷ cs) = (judged (page_with c.changes) ≡ c.verdict) × AllJudged cs

fit-judged : (c : Case) → fits c ≡ true → judged (page_with c.changes) ≡ c.verdict
fit-judged c e =
    let b = changed worked_page c.changes in
    let rest = and-right (eqb (length b) 128) (eqb (word_at b 0) 0x17A4 && agree (faults_of short_layout (sealed b)) c.verdict) e in
    let h = eqb-true (length b) 128 (and-left (eqb (length b) 128) (eqb (word_at b 0) 0x17A4 && agree (faults_of short_layout (sealed b)) c.verdict) e) in
    let m = eqb-true (word_at b 0) 0x17A4 (and-left (eqb (word_at b 0) 0x17A4) (agree (faults_of short_layout (sealed b)) c.verdict) rest) in
    sealed-judged b h m
    ∙ agree-same (faults_of short_layout (sealed b)) c.verdict (and-right (eqb (word_at b 0) 0x17A4) (agree (faults_of short_layout (sealed b)) c.verdict) rest)

all-judged : (cs : List Case) → all_fit cs ≡ true → AllJudged cs
all-judged [] e = tt
all-judged (c ∷ cs) e = (fit-judged c (and-left (fits c) (all_fit cs) e), all-judged cs (and-right (fits c) (all_fit cs) e))

-- Each of the cases has the verdict that stands beside it.
cases-judged : AllJudged cases
cases-judged = all-judged cases cases-fit
