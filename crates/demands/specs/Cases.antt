-- Computed cases, through load, sample and command: document 01's replay example as decisions, the limits of a sample, counts, commands,
-- the modes one after the other, masks of 0, a page of 160 bytes in the cold, and a page with another floor and another detection current.
-- Assumes nothing.
use Rattle.std.specs.Prelude.{◌≡◌, refl, cond, List, [], ◌∷◌, ◌++◌, map, ℕ, ◌+◌, ◌-◌, ◌*◌, ℤ, pos, take, replicate}
use Rattle.std.proofs.Common.{ap}
use Rattle.units.specs.Levels.{level}
use Rattle.page_judge.specs.Worked.{Change, worked_page, long_page, unlike_page, page_with, long_with, put}
use Rattle.refusals.specs.Answers.{answer_of}
use Rattle.sample.specs.Cases as sample
use Rattle.sample.specs.Cases.{below_zero}
use Rattle.protections.specs.declared.Limits.{Limits}
use Rattle.refusals.specs.Verdicts.{Accepted}
use Rattle.page_settings.specs.declared.Settings.{Settings}
use Rattle.page_settings.specs.declared.Loaded.{Loaded}
use Rattle.page_settings.specs.Settings.{absent, no_settings, loaded_of}
use Rattle.page_settings.specs.Cases.{worked_rules, worked, worked-loaded, winter, winter-loaded, unlike, unlike-loaded}
use Rattle.pack_state.specs.declared.Pack.{Pack}
use Rattle.pack.specs.declared.Answered.{Answered}
use Rattle.pack.specs.Events.{Event, offer, command, accepts}
use Rattle.pack_state.specs.State.{fresh_pack}
use Rattle.pack.specs.Answers.{offered, commanded}
use Rattle.pack.specs.Kept.{page_of}
use Rattle.pack_shown.specs.Shown.{decision, decision_of}
use Rattle.text_fields.specs.Quoted.{quoted}
use Rattle.text_fields.specs.Decimal.{decimal}
use Rattle.text_fields.specs.Fields.{fields_of, line_of}
use Rattle.text_fields.specs.Finding.{lacks}
use Rattle.text_numbers.specs.Numbers as text
use Rattle.text_numbers.specs.Numbers.{digits_to, number_to}
use Rattle.guard_raised.specs.Words.{raised_word_after, blocks_after}
use Rattle.bleed.specs.Walk.Balance.{bled_word_after}
use Rattle.pack_state.specs.State.{bled_after}
use Rattle.pack_shown.specs.Shown.{decision_after, mode_after}
use Rattle.log_entries.specs.Entry.{read_command, cells_from, second_from, first_from, read_sample, fields_say, read_entry}
use Rattle.log_texts.specs.Texts.{decision_text, refused_text}
use Rattle.demands.specs.History.{story}
use Rattle.demands.specs.Shown.{shown, shown_words}
use Rattle.demands.specs.Written.{sampled, charged, computed}

-- ---- answers, written short

-- What a call answers: the five fields of the line, or the number of the refusal.
abbrev told : Answered → List ℕ
told a =
    let d = decision_of a.pack in
    cond (accepts a.verdict) (d.tick ∷ d.raised ∷ d.fets ∷ d.balance ∷ d.mode ∷ []) ((answer_of a.verdict).number ∷ [])

abbrev answer : Pack → Event → Answered
answer p (offer s) = offered p s
answer p (command c) = commanded p c

-- The answers to events in time order.
abbrev answers : Pack → List Event → List (List ℕ)
answers p [] = []
answers p (e ∷ es) = told (answer p e) ∷ answers (answer p e).pack es

-- The numbers of the answers alone: 0 where nothing is refused.
abbrev numbers : Pack → List Event → List (List ℕ)
numbers p [] = []
numbers p (e ∷ es) = ((answer_of (answer p e).verdict).number ∷ []) ∷ numbers (answer p e).pack es

-- What is computed, and what it is to be.
pub record Case : Type 0 where
  pub got : List (List ℕ)
  pub right : List (List ℕ)

abbrev case : List (List ℕ) → List (List ℕ) → Case
case g w = record { got = g; right = w }

abbrev got_all : List Case → List (List (List ℕ))
got_all [] = []
got_all (c ∷ cs) = c.got ∷ got_all cs

abbrev right_all : List Case → List (List (List ℕ))
right_all [] = []
right_all (c ∷ cs) = c.right ∷ right_all cs

abbrev each : List ℕ → List (List ℕ)
each [] = []
each (n ∷ l) = (n ∷ []) ∷ each l

-- ---- the cases

-- Document 01's replay example.
abbrev replay : Case
replay =
    case
    (answers (fresh_pack worked)
    (command 3
    ∷ charged (4000 ∷ 4020 ∷ [])
    ∷ charged (4260 ∷ 4100 ∷ [])
    ∷ charged (4260 ∷ 4100 ∷ [])
    ∷ charged (4100 ∷ [])
    ∷ []))
    ((0 ∷ 0 ∷ 0 ∷ 0 ∷ 0 ∷ [])
    ∷ (1 ∷ 0 ∷ 3 ∷ 2 ∷ 3 ∷ [])
    ∷ (2 ∷ 0 ∷ 3 ∷ 1 ∷ 3 ∷ [])
    ∷ (3 ∷ 1 ∷ 2 ∷ 0 ∷ 21 ∷ [])
    ∷ (9 ∷ [])
    ∷ [])

-- (*) "Cell 6000 taken, 6001 gives 10. Temperature 2000 and 4500 taken, 1999 and 4501 give 11."
abbrev limit_cases : Case
limit_cases =
    case
    (numbers (fresh_pack worked)
    (charged (6000 ∷ 4000 ∷ [])
    ∷ charged (4000 ∷ 6001 ∷ [])
    ∷ sampled (pos 0) 2000 4500 (4000 ∷ 4000 ∷ [])
    ∷ sampled (pos 0) 4500 2000 (4000 ∷ 4000 ∷ [])
    ∷ sampled (pos 0) 1999 2980 (4000 ∷ 4000 ∷ [])
    ∷ sampled (pos 0) 2980 1999 (4000 ∷ 4000 ∷ [])
    ∷ sampled (pos 0) 4501 2980 (4000 ∷ 4000 ∷ [])
    ∷ sampled (pos 0) 2980 4501 (4000 ∷ 4000 ∷ [])
    ∷ []))
    (each (0 ∷ 10 ∷ 0 ∷ 0 ∷ 11 ∷ 11 ∷ 11 ∷ 11 ∷ []))

-- A count of 0, n - 1, n + 1, 10 and 255 cells; 9 before 10, and 10 before 11.
abbrev count_cases : Case
count_cases =
    case
    (numbers (fresh_pack worked)
    (charged []
    ∷ charged (4000 ∷ [])
    ∷ charged (4000 ∷ 4000 ∷ 4000 ∷ [])
    ∷ charged (4000 ∷ 4000 ∷ 4000 ∷ 4000 ∷ 4000 ∷ 4000 ∷ 4000 ∷ 4000 ∷ 4000 ∷ 4000 ∷ [])
    ∷ offer (sample.sampled 255 (replicate 10 0) (pos 0) 2980 2980)
    ∷ charged (6001 ∷ [])
    ∷ sampled (pos 0) 1999 2980 (4000 ∷ 6001 ∷ [])
    ∷ []))
    (each (9 ∷ 9 ∷ 9 ∷ 9 ∷ 9 ∷ 9 ∷ 10 ∷ []))

-- Commands: 4, 256 and 65535 give 16, and the command before them stands; it is remembered before the first sample.
abbrev command_cases : Case
command_cases =
    case
    (answers (fresh_pack worked)
    (command 1 ∷ command 4 ∷ command 256 ∷ command 65535 ∷ charged (4000 ∷ 4000 ∷ []) ∷ command 2 ∷ command 0 ∷ []))
    ((0 ∷ 0 ∷ 0 ∷ 0 ∷ 0 ∷ [])
    ∷ (16 ∷ [])
    ∷ (16 ∷ [])
    ∷ (16 ∷ [])
    ∷ (1 ∷ 0 ∷ 1 ∷ 0 ∷ 3 ∷ [])
    ∷ (1 ∷ 0 ∷ 2 ∷ 0 ∷ 3 ∷ [])
    ∷ (1 ∷ 0 ∷ 0 ∷ 0 ∷ 3 ∷ [])
    ∷ [])

-- A pack without a page refuses every sample with 9; a command of 0 to 3 is taken, and no switch goes on.
abbrev pageless_cases : Case
pageless_cases =
    case
    (answers (fresh_pack no_settings) (charged [] ∷ command 3 ∷ charged (4000 ∷ 4000 ∷ []) ∷ command 4 ∷ []))
    ((9 ∷ []) ∷ (0 ∷ 0 ∷ 0 ∷ 0 ∷ 0 ∷ []) ∷ (9 ∷ []) ∷ (16 ∷ []) ∷ [])

-- The worked page with N 1, M 1 and mask 0, which "only reports", for every protection.
abbrev reports : ℤ → ℤ → Limits
reports trip release = record { trip = level trip; release = level release; n = 1; m = 1; mask = 0 }

abbrev reporting : Settings
reporting =
    record {
      rules = worked_rules;
      limits =
          reports (pos 4250) (pos 4150)
          ∷ reports (pos 2500) (pos 2600)
          ∷ reports (pos 3000) (pos 2500)
          ∷ reports (below_zero 5000) (below_zero 4000)
          ∷ reports (below_zero 20000) (below_zero 100)
          ∷ reports (pos 3182) (pos 3131)
          ∷ reports (pos 3332) (pos 3281)
          ∷ reports (pos 3532) (pos 3431)
          ∷ absent
          ∷ absent
          ∷ [];
    }

-- The modes, in the order 4, 3, 2, 0, 7, 6, 5: samples 2 to 8 raise 5, 6, 7, 0, 2, 3 and 4, one after the other, and each shows the number
-- of the one just raised, since it comes first. At sample 9 only 1 is raised, which has no number. With masks of 0 both switches stay on,
-- and still nothing is bled while one is raised, though cell 2 is high enough at every sample.
abbrev mode_cases : Case
mode_cases =
    case
    (answers (fresh_pack reporting)
    (command 3
    ∷ charged (4000 ∷ 4020 ∷ [])
    ∷ sampled (pos 500) 3182 2980 (4000 ∷ 4020 ∷ [])
    ∷ sampled (pos 500) 3332 2980 (4000 ∷ 4020 ∷ [])
    ∷ sampled (pos 500) 3332 3532 (4000 ∷ 4020 ∷ [])
    ∷ sampled (pos 500) 3332 3532 (4000 ∷ 4250 ∷ [])
    ∷ sampled (pos 3000) 3332 3532 (4000 ∷ 4250 ∷ [])
    ∷ sampled (below_zero 5000) 3332 3532 (4000 ∷ 4250 ∷ [])
    ∷ sampled (below_zero 20000) 3332 3532 (4000 ∷ 4250 ∷ [])
    ∷ charged (2500 ∷ 4020 ∷ [])
    ∷ charged (4000 ∷ 4020 ∷ [])
    ∷ []))
    ((0 ∷ 0 ∷ 0 ∷ 0 ∷ 0 ∷ [])
    ∷ (1 ∷ 0 ∷ 3 ∷ 2 ∷ 0x03 ∷ [])
    ∷ (2 ∷ 32 ∷ 3 ∷ 0 ∷ 0x10 ∷ [])
    ∷ (3 ∷ 96 ∷ 3 ∷ 0 ∷ 0x11 ∷ [])
    ∷ (4 ∷ 224 ∷ 3 ∷ 0 ∷ 0x16 ∷ [])
    ∷ (5 ∷ 225 ∷ 3 ∷ 0 ∷ 0x15 ∷ [])
    ∷ (6 ∷ 229 ∷ 3 ∷ 0 ∷ 0x12 ∷ [])
    ∷ (7 ∷ 233 ∷ 3 ∷ 0 ∷ 0x13 ∷ [])
    ∷ (8 ∷ 249 ∷ 3 ∷ 0 ∷ 0x14 ∷ [])
    ∷ (9 ∷ 2 ∷ 3 ∷ 0 ∷ 0x03 ∷ [])
    ∷ (10 ∷ 0 ∷ 3 ∷ 2 ∷ 0x03 ∷ [])
    ∷ [])

-- Request 02: at the two tenths beside each temperature limit of that page. 45 and 40 degrees trip and release 5, 60 and 55 degrees 6, 80 and
-- 70 degrees 7: a trip of C degrees needs 10 × C + 2732 or more, a release 10 × C + 2731 or less. The last sample is as cold as one may be:
-- the page has 128 bytes, and 8 and 9 do not rise.
abbrev degree_cases : Case
degree_cases =
    case
    (answers (fresh_pack reporting)
    (sampled (pos 0) 3181 2980 (4000 ∷ 4000 ∷ [])
    ∷ sampled (pos 0) 3182 2980 (4000 ∷ 4000 ∷ [])
    ∷ sampled (pos 0) 3331 2980 (4000 ∷ 4000 ∷ [])
    ∷ sampled (pos 0) 3332 2980 (4000 ∷ 4000 ∷ [])
    ∷ sampled (pos 0) 3282 2980 (4000 ∷ 4000 ∷ [])
    ∷ sampled (pos 0) 3281 2980 (4000 ∷ 4000 ∷ [])
    ∷ sampled (pos 0) 3132 2980 (4000 ∷ 4000 ∷ [])
    ∷ sampled (pos 0) 3131 3531 (4000 ∷ 4000 ∷ [])
    ∷ sampled (pos 0) 2980 3532 (4000 ∷ 4000 ∷ [])
    ∷ sampled (pos 0) 2980 3432 (4000 ∷ 4000 ∷ [])
    ∷ sampled (pos 0) 2980 3431 (4000 ∷ 4000 ∷ [])
    ∷ sampled (pos 0) 2000 2980 (4000 ∷ 4000 ∷ [])
    ∷ []))
    ((1 ∷ 0 ∷ 0 ∷ 0 ∷ 0x02 ∷ [])
    ∷ (2 ∷ 32 ∷ 0 ∷ 0 ∷ 0x10 ∷ [])
    ∷ (3 ∷ 32 ∷ 0 ∷ 0 ∷ 0x10 ∷ [])
    ∷ (4 ∷ 96 ∷ 0 ∷ 0 ∷ 0x11 ∷ [])
    ∷ (5 ∷ 96 ∷ 0 ∷ 0 ∷ 0x11 ∷ [])
    ∷ (6 ∷ 32 ∷ 0 ∷ 0 ∷ 0x10 ∷ [])
    ∷ (7 ∷ 32 ∷ 0 ∷ 0 ∷ 0x10 ∷ [])
    ∷ (8 ∷ 0 ∷ 0 ∷ 0 ∷ 0x02 ∷ [])
    ∷ (9 ∷ 128 ∷ 0 ∷ 0 ∷ 0x16 ∷ [])
    ∷ (10 ∷ 128 ∷ 0 ∷ 0 ∷ 0x16 ∷ [])
    ∷ (11 ∷ 0 ∷ 0 ∷ 0 ∷ 0x02 ∷ [])
    ∷ (12 ∷ 0 ∷ 0 ∷ 0 ∷ 0x02 ∷ [])
    ∷ [])

-- Request 07, on the page of 160 bytes: 8 trips at 0 degrees, so at 2731 tenths and not at 2732, here with N 2 and mask 1. It stops
-- bleeding, and has no mode.
abbrev cold_cases : Case
cold_cases =
    case
    (answers (fresh_pack winter)
    (command 3
    ∷ sampled (pos 500) 2732 2980 (4000 ∷ 4020 ∷ [])
    ∷ sampled (pos 500) 2731 2980 (4000 ∷ 4020 ∷ [])
    ∷ sampled (pos 500) 2731 2980 (4000 ∷ 4020 ∷ [])
    ∷ sampled (pos 500) 2782 2980 (4000 ∷ 4020 ∷ [])
    ∷ []))
    ((0 ∷ 0 ∷ 0 ∷ 0 ∷ 0 ∷ [])
    ∷ (1 ∷ 0 ∷ 3 ∷ 2 ∷ 0x03 ∷ [])
    ∷ (2 ∷ 0 ∷ 3 ∷ 2 ∷ 0x03 ∷ [])
    ∷ (3 ∷ 256 ∷ 2 ∷ 0 ∷ 0x03 ∷ [])
    ∷ (4 ∷ 256 ∷ 2 ∷ 0 ∷ 0x03 ∷ [])
    ∷ [])

-- The same page with N 1 and M 1 for 8 and 9. 9 trips at -10 degrees and is released at -5, so at 2682; mask 2. 8 is released at 5
-- degrees, so at 2782 and not at 2781.
abbrev quick : Settings
quick =
    record {
      rules = worked_rules;
      limits =
          take 8 winter.limits
          ++ record { trip = level (pos 2731); release = level (pos 2782); n = 1; m = 1; mask = 1 }
          ∷ record { trip = level (pos 2631); release = level (pos 2682); n = 1; m = 1; mask = 2 }
          ∷ [];
    }

abbrev quick_cases : Case
quick_cases =
    case
    (answers (fresh_pack quick)
    (command 3
    ∷ sampled (pos 0) 2632 2980 (4000 ∷ 4000 ∷ [])
    ∷ sampled (pos 0) 2631 2980 (4000 ∷ 4000 ∷ [])
    ∷ sampled (pos 0) 2682 2980 (4000 ∷ 4000 ∷ [])
    ∷ sampled (pos 0) 2781 2980 (4000 ∷ 4000 ∷ [])
    ∷ sampled (pos 0) 2782 2980 (4000 ∷ 4000 ∷ [])
    ∷ []))
    ((0 ∷ 0 ∷ 0 ∷ 0 ∷ 0 ∷ [])
    ∷ (1 ∷ 256 ∷ 2 ∷ 0 ∷ 0x02 ∷ [])
    ∷ (2 ∷ 768 ∷ 0 ∷ 0 ∷ 0x02 ∷ [])
    ∷ (3 ∷ 256 ∷ 2 ∷ 0 ∷ 0x02 ∷ [])
    ∷ (4 ∷ 256 ∷ 2 ∷ 0 ∷ 0x02 ∷ [])
    ∷ (5 ∷ 0 ∷ 3 ∷ 0 ∷ 0x02 ∷ [])
    ∷ [])

-- A page with floor 3700, difference 25 and detection 150, seven cells and K 3: cells 2 and 6 are bled at 150 mA and nobody at 149 or -150 mA; nor one
-- of 3699 mV, or one that exceeds the lowest by 25.
abbrev other_cases : Case
other_cases =
    case
    (answers (fresh_pack unlike)
    (sampled (pos 150) 2980 2980 (3700 ∷ 3726 ∷ 3700 ∷ 3725 ∷ 3700 ∷ 3800 ∷ 3700 ∷ [])
    ∷ sampled (pos 149) 2980 2980 (3700 ∷ 3726 ∷ 3700 ∷ 3725 ∷ 3700 ∷ 3800 ∷ 3700 ∷ [])
    ∷ sampled (below_zero 150) 2980 2980 (3700 ∷ 3726 ∷ 3700 ∷ 3725 ∷ 3700 ∷ 3800 ∷ 3700 ∷ [])
    ∷ sampled (pos 150) 2980 2980 (3600 ∷ 3699 ∷ 3600 ∷ 3700 ∷ 3600 ∷ 3600 ∷ 3600 ∷ [])
    ∷ []))
    ((1 ∷ 0 ∷ 0 ∷ 34 ∷ 0x03 ∷ []) ∷ (2 ∷ 0 ∷ 0 ∷ 0 ∷ 0x02 ∷ []) ∷ (3 ∷ 0 ∷ 0 ∷ 0 ∷ 0x02 ∷ []) ∷ (4 ∷ 0 ∷ 0 ∷ 8 ∷ 0x03 ∷ []) ∷ [])

abbrev pub cases : List Case
cases = replay ∷ limit_cases ∷ count_cases ∷ command_cases ∷ pageless_cases ∷ []

-- Every case gives what it is to give; the long ones are computed one by one.
pub cases-pass : got_all cases ≡ right_all cases
unfolding computed
cases-pass = refl

pub modes-pass : mode_cases.got ≡ mode_cases.right
unfolding computed
modes-pass = refl

pub degrees-pass : degree_cases.got ≡ degree_cases.right
unfolding computed
degrees-pass = refl

pub cold-pass : cold_cases.got ≡ cold_cases.right
unfolding computed
cold-pass = refl

pub quick-pass : quick_cases.got ≡ quick_cases.right
unfolding computed
quick-pass = refl

pub other-pass : other_cases.got ≡ other_cases.right
unfolding computed
other-pass = refl

-- Of an accepted sample, a refused one and a command only the first is listed.
pub listed : shown_words worked_page (command 3 ∷ charged (4100 ∷ []) ∷ charged (4000 ∷ 4020 ∷ []) ∷ []) ≡ 2 ∷ []
unfolding computed
listed = refl

-- Document 01's log once more: what document 01 says of each line behind the lines before it, by the page and the history alone.
pub lines-said
    : story worked_page []
    (quoted "F\t3"
    ∷ quoted "S\t500\t2980\t2980\t4000\t4020"
    ∷ quoted "S\t500\t2980\t2980\t4260\t4100"
    ∷ quoted "S\t500\t2980\t2980\t4260\t4100"
    ∷ quoted "S\t500\t2980\t2980\t4100"
    ∷ quoted "S\t500"
    ∷ [])
    ≡ quoted "0\t0\t0\t0\t0\n1\t0\t3\t2\t3\n2\t0\t3\t1\t3\n3\t1\t2\t0\t21\nrefused\t9\nrefused\t17\n"
unfolding computed decision_after mode_after raised_word_after blocks_after bled_after bled_word_after story decision_text refused_text decimal fields_of line_of lacks
    digits_to number_to text.read_signed read_entry read_command cells_from second_from first_from read_sample fields_say
lines-said = refl

-- ---- the settings of these cases are those of accepted pages

pub worked-is : page_of worked_page ≡ worked
worked-is = ap (λ (l : Loaded). l.settings) worked-loaded

pub winter-is : page_of long_page ≡ winter
winter-is = ap (λ (l : Loaded). l.settings) winter-loaded

pub unlike-is : page_of unlike_page ≡ unlike
unlike-is = ap (λ (l : Loaded). l.settings) unlike-loaded

pub quick-is : loaded_of (long_with (put 58 1 ∷ put 59 1 ∷ put 63 1 ∷ put 64 1 ∷ [])) ≡ record { verdict = Accepted; settings = quick }
unfolding computed
quick-is = refl

-- Protection p with these two words for its levels, N 1, M 1 and mask 0.
abbrev reporter : ℕ → ℕ → ℕ → List Change
reporter p trip release =
    put (16 + 5 * p) trip ∷ put (17 + 5 * p) release ∷ put (18 + 5 * p) 1 ∷ put (19 + 5 * p) 1 ∷ put (20 + 5 * p) 0 ∷ []

abbrev reporting_page : List ℕ
reporting_page =
    page_with
    (reporter 0 4250 4150
    ++ reporter 1 2500 2600
    ++ reporter 2 3000 2500
    ++ reporter 3 (65536 - 5000) (65536 - 4000)
    ++ reporter 4 (65536 - 20000) (65536 - 100)
    ++ reporter 5 45 40
    ++ reporter 6 60 55
    ++ reporter 7 80 70)

pub reporting-is : loaded_of reporting_page ≡ record { verdict = Accepted; settings = reporting }
unfolding computed
reporting-is = refl

-- A command between two samples, and behind one, takes nothing back: what is shown after each.
pub between-samples
    : shown worked_page (charged (4000 ∷ 4020 ∷ []) ∷ command 3 ∷ charged (4000 ∷ 4020 ∷ []) ∷ [])
    ∷ shown worked_page (command 3 ∷ charged (4000 ∷ 4020 ∷ []) ∷ [])
    ∷ shown worked_page (command 4 ∷ command 3 ∷ charged (4000 ∷ 4020 ∷ []) ∷ [])
    ∷ []
    ≡ decision 2 0 3 2 3 ∷ decision 1 0 3 2 3 ∷ decision 1 0 3 2 3 ∷ []
unfolding computed
between-samples = refl

-- Who is bled: a cell below the floor of 3900 mV is not, though it exceeds the other by 50; nor one that exceeds it by 5 or by 10, and by 11 it is.
pub floor-and-difference
    : map (λ cells. (shown worked_page (charged cells ∷ [])).balance)
    ((3850 ∷ 3800 ∷ []) ∷ (3899 ∷ 3800 ∷ []) ∷ (3900 ∷ 3800 ∷ []) ∷ (4005 ∷ 4000 ∷ []) ∷ (4010 ∷ 4000 ∷ []) ∷ (4011 ∷ 4000 ∷ []) ∷ [])
    ≡ 0 ∷ 0 ∷ 1 ∷ 0 ∷ 0 ∷ 1 ∷ []
unfolding computed
floor-and-difference = refl

-- A command behind a sample, as document 01 says it of the page and the history alone: its line shows the switch that it turns on;
-- then a cell below the floor, one that exceeds the other by too little, and one by enough.
pub command-said : story worked_page [] (quoted "S\t500\t2980\t2980\t4000\t4020" ∷ quoted "F\t1" ∷ quoted "F\t4"
    ∷ quoted "S\t500\t2980\t2980\t3850\t3800" ∷ quoted "S\t500\t2980\t2980\t4005\t4000" ∷ quoted "S\t500\t2980\t2980\t4011\t4000" ∷ [])
    ≡ quoted "1\t0\t0\t2\t3\n1\t0\t1\t2\t3\nrefused\t16\n2\t0\t1\t0\t3\n3\t0\t1\t0\t3\n4\t0\t1\t1\t3\n"
unfolding computed decision_after mode_after raised_word_after blocks_after bled_after bled_word_after story decision_text refused_text decimal fields_of line_of lacks
    digits_to number_to text.read_signed read_entry read_command cells_from second_from first_from read_sample fields_say
command-said = refl
