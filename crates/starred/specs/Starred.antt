-- DOCUMENT 01'S STARRED CASES: one list of what they say of the definitions, in the paper's order and with its words, and one claim,
-- that all of it holds of ours. "Marked (*) belong to the proved set." Where the paper speaks of any page or any cell, so does the list.
-- Assumes nothing.
use Rattle.std.specs.Prelude.{◌≡◌, refl, Bool, true, false, List, [], ◌∷◌, map, reverse, ℕ, ◌≤◌, ℤ, pos, length, replicate, take}
use Rattle.crc.specs.CheckByte.{times_x, times_xs, with_byte, remainder, check_byte}
use Rattle.units.specs.Signed.{word_of}
use Rattle.page_words.specs.Ranges.{word_at, within}
use Rattle.page_judge.specs.Page.{judged}
use Rattle.page_judge.specs.Walk.{judged-is}
use Rattle.refusals.specs.Verdicts.{Verdict, Accepted, Refused}
use Rattle.sample.specs.Cells.{best_of, extremes_of}
use Rattle.sample.specs.Measure.{measure}
use Rattle.sample.specs.Cases.{below_zero, sampled}
use Rattle.protections.specs.declared.Limits.{Limits}
use Rattle.protections.specs.Table.{row_at, table}
use Rattle.sample.specs.declared.Sample.{Sample}
use Rattle.guard.specs.Steps.{raised}
use Rattle.guard.specs.Cases.{limited, high}
use Rattle.bleed.specs.Walk.Walk.{has}
use Rattle.bleed.specs.Walk.History.{bleds}
use Rattle.bleed.specs.Walk.Cases.{history}
use Rattle.pack_refusals.specs.Samples.{cells_fit, sample_refusals, sample_verdict}
use Rattle.page_settings.specs.Cases.{worked}
use Rattle.page_settings.specs.declared.Settings.{Settings}
use Rattle.pack_state.specs.Past.{Past, past}
use Rattle.bus_table.specs.Table as bus
use Rattle.bus_table.specs.Table.{row_of_command}
use Rattle.bus_words.specs.Words.{pack_word, sent_word, word_after}
use Rattle.bus.specs.Replies.{not_in_table, cell_above, reply_refusals, answer_for, frame_of, answer_after, buffer_after}
use Rattle.starred.specs.EverySecond.{only, every_second, bled-every-second}

-- ---- the definitions that the cases speak of

pub record Definitions : Type 0 where
  -- the check byte of some bytes
  pub check_byte : List ℕ → ℕ
  -- whether the protection with this number and these limits is raised after a history
  pub raised : ℕ → Limits → List Sample → Bool
  -- the cells bled at each sample of a history of wishes, by n, K and R
  pub bleds : ℕ → ℕ → ℕ → List (ℕ → Bool) → List (List ℕ)
  -- what stands in the buffer after a command on the bus, by the page and the past
  pub replied : Settings → Past → ℕ → List ℕ → List ℕ
  -- the verdict on a sample in a pack of n cells
  pub verdict : ℕ → Sample → Verdict
  -- the verdict on a page
  pub judged : List ℕ → Verdict

-- Ours.
abbrev pub ours : Definitions
ours =
    record {
      check_byte = check_byte;
      raised = λ p l h. raised (row_at p) l h;
      bleds = bleds;
      replied = buffer_after;
      verdict = sample_verdict;
      judged = judged;
    }

-- ---- what the list has of them, written short

-- Whether a protection is raised after a sample, and whether a cell wants or is bled at one.
abbrev no : Bool
no = false

abbrev yes : Bool
yes = true

-- The cells that want at samples 1 to 7 of the third case.
abbrev wanting : List (List ℕ)
wanting = [] ∷ [] ∷ (1 ∷ 2 ∷ []) ∷ (1 ∷ 3 ∷ []) ∷ (1 ∷ 2 ∷ []) ∷ (1 ∷ 3 ∷ []) ∷ (1 ∷ 2 ∷ []) ∷ []

module _ (d : Definitions) where
  -- Whether protection 0, the over voltage, is raised after each sample, in the order of time.
  abbrev raised_along : Limits → List Sample → List Sample → List Bool
  raised_along l past [] = []
  raised_along l past (s ∷ coming) = d.raised 0 l (s ∷ past) ∷ raised_along l (s ∷ past) coming

  -- The cells bled at each sample, in the order of time.
  abbrev bled : ℕ → ℕ → ℕ → List (List ℕ) → List (List ℕ)
  bled n K R ls = reverse (d.bleds n K R (history ls))

  -- The first two bytes of the reply to 0x0A after one sample with this current, under the page of document 01's replay example.
  abbrev sent_for : ℤ → List ℕ
  sent_for z =
      take 2 (d.replied worked (past (sampled 2 (4000 ∷ 4000 ∷ 0 ∷ 0 ∷ 0 ∷ 0 ∷ 0 ∷ 0 ∷ 0 ∷ 0 ∷ []) z 2980 2980 ∷ []) 0) 0x0A (0 ∷ 0 ∷ 0 ∷ []))

  -- The verdict on a sample of two cells, at 25 °C; and of two temperatures.
  abbrev of_cells : ℕ → ℕ → Verdict
  of_cells x y = d.verdict 2 (sampled 2 (x ∷ y ∷ 0 ∷ 0 ∷ 0 ∷ 0 ∷ 0 ∷ 0 ∷ 0 ∷ 0 ∷ []) (pos 0) 2980 2980)

  abbrev of_temperatures : ℕ → ℕ → Verdict
  of_temperatures t1 t2 = d.verdict 2 (sampled 2 (4000 ∷ 4000 ∷ 0 ∷ 0 ∷ 0 ∷ 0 ∷ 0 ∷ 0 ∷ 0 ∷ 0 ∷ []) (pos 0) t1 t2)

  -- ---- the list

  abbrev pub starred : List (Type 0)
  starred =
      -- (*) "Check byte of nothing is 0x00; of 0x01 is 0x07. Of ASCII `123456789` it is 0xF4."
      ((d.check_byte [] ≡ 0x00)
      × (d.check_byte (0x01 ∷ []) ≡ 0x07)
      × (d.check_byte (0x31 ∷ 0x32 ∷ 0x33 ∷ 0x34 ∷ 0x35 ∷ 0x36 ∷ 0x37 ∷ 0x38 ∷ 0x39 ∷ []) ≡ 0xF4))
      -- (*) "Trip 4250, release 4150, N 3, M 2. Highest cell 4250, 4250, 4249, 4250, 4250, 4250: raised at the sixth only. Then 4150,
      -- 4151, 4150, 4150: released at the fourth." With mask 1.
      ∷ (raised_along (limited (pos 4250) (pos 4150) 3 2 1) []
      (high 4250 ∷ high 4250 ∷ high 4249 ∷ high 4250 ∷ high 4250 ∷ high 4250 ∷ high 4150 ∷ high 4151 ∷ high 4150 ∷ high 4150 ∷ [])
      ≡ (no ∷ no ∷ no ∷ no ∷ no ∷ yes ∷ yes ∷ yes ∷ yes ∷ no ∷ []))
      -- (*) "n 3, K 1, R 1. At samples 3 to 7 the wanting cells are {1,2}, {1,3}, {1,2}, {1,3}, {1,2}; none want earlier. Bled: 1, 3,
      -- 2, 3, 1. Cell 1 wants at 4, 5 and 6 and gets nothing; at 7 it does."
      ∷ ((bled 3 1 1 wanting ≡ ([] ∷ [] ∷ (1 ∷ []) ∷ (3 ∷ []) ∷ (2 ∷ []) ∷ (3 ∷ []) ∷ (1 ∷ []) ∷ []))
      × (map (has 1) wanting ≡ (no ∷ no ∷ yes ∷ yes ∷ yes ∷ yes ∷ yes ∷ []))
      × (map (has 1) (bled 3 1 1 wanting) ≡ (no ∷ no ∷ yes ∷ no ∷ no ∷ no ∷ yes ∷ [])))
      -- (*) "Current -2 is sent as FE FF; -32768 as 00 80."
      ∷ ((sent_for (below_zero 2) ≡ (0xFE ∷ 0xFF ∷ []))
      × (sent_for (below_zero 32768) ≡ (0x00 ∷ 0x80 ∷ [])))
      -- (*) "Cell 6000 taken, 6001 gives 10. Temperature 2000 and 4500 taken, 1999 and 4501 give 11." Either cell, either temperature.
      ∷ ((of_cells 6000 4000 ≡ Accepted)
      × (of_cells 4000 6000 ≡ Accepted)
      × (of_cells 6001 4000 ≡ Refused 10 0)
      × (of_cells 4000 6001 ≡ Refused 10 0)
      × (of_temperatures 2000 4500 ≡ Accepted)
      × (of_temperatures 4500 2000 ≡ Accepted)
      × (of_temperatures 1999 2980 ≡ Refused 11 0)
      × (of_temperatures 2980 1999 ≡ Refused 11 0)
      × (of_temperatures 4501 2980 ≡ Refused 11 0)
      × (of_temperatures 2980 4501 ≡ Refused 11 0))
      -- (*) "R 1, one cell always wanting, no others: it is bled at every second sample." Cell 2 of three over six samples; and cell k
      -- of n over m samples, the latest first.
      ∷ ((bled 3 1 1 (replicate 6 (2 ∷ [])) ≡ ((2 ∷ []) ∷ [] ∷ (2 ∷ []) ∷ [] ∷ (2 ∷ []) ∷ [] ∷ []))
      × ((n K k m : ℕ) → 1 ≤ K → 1 ≤ k → k ≤ n → map (has k) (d.bleds n K 1 (replicate m (only k))) ≡ every_second m)
      × (every_second 6 ≡ (no ∷ yes ∷ no ∷ yes ∷ no ∷ yes ∷ [])))
      -- (*) "Page of 127 bytes gives 1; 128 bytes that begin 17 A4 give 2." Whatever the other bytes are.
      ∷ (((b : List ℕ) → length b ≡ 127 → d.judged b ≡ Refused 1 0)
      × ((b : List ℕ) → length b ≡ 126 → d.judged (0x17 ∷ 0xA4 ∷ b) ≡ Refused 2 0))
      ∷ []

-- ---- the claim

-- Every entry of a list holds.
abbrev pub AllHold : List (Type 0) → Type 0
AllHold [] = Unit {0}
AllHold (P ∷ Ps) = P × AllHold Ps

short-page : (b : List ℕ) → length b ≡ 127 → judged b ≡ Refused 1 0
short-page b e = rw (judged-is, e)

backwards-page : (b : List ℕ) → length b ≡ 126 → judged (0x17 ∷ 0xA4 ∷ b) ≡ Refused 2 0
unfolding word_at
backwards-page b e = rw (judged-is, e)

-- Document 01's starred cases hold of our definitions.
pub all-starred : AllHold (starred ours)
unfolding check_byte remainder with_byte times_xs times_x raised row_at table measure extremes_of best_of buffer_after answer_after answer_for
    reply_refusals not_in_table cell_above row_of_command bus.table frame_of word_after sent_word pack_word word_of sample_verdict sample_refusals cells_fit within
all-starred = (
  (refl, refl, refl),
  (
    refl,
    (
      (refl, refl, refl),
      (
        (refl, refl),
        (
          (refl, refl, refl, refl, refl, refl, refl, refl, refl, refl),
          (
            (refl, bled-every-second, refl),
            (
              (short-page, backwards-page),
              tt,
            ),
          ),
        ),
      ),
    ),
  ),
)
