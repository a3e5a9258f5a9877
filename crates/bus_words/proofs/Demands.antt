-- DEMAND 2 ON THE BUS, the words: after a load of any bytes and any events since, the word of each command is what document 01 says of
-- the page and the past. It stands in proofs/: an edit that makes a definition wrong is then refused by it.
-- Assumes nothing.
use Rattle.std.specs.Prelude.{◌≡◌, List, ℕ, ◌-◌, ◌<◌, Some, None}
use Rattle.std.proofs.Math.Path.{refl, ap}
use Rattle.std.proofs.Common.{◌∙◌, lit<, lt-ltb, le-ltb}
use native.Mathlib.Omega.{arith}
use Rattle.laws.specs.Tests.{by-order}
use Rattle.laws.specs.Bits.{has_bit}
use Rattle.laws.specs.Words.{bits-same}
use Rattle.protections.specs.Table.{protections}
use Rattle.guard_raised.specs.Words.{raised_after, blocks_any-is, raised_word_after-has}
use Rattle.page_settings.specs.declared.Settings.{Settings}
use Rattle.pack_state.specs.declared.Pack.{Pack}
use Rattle.pack.specs.Events.{Event}
use Rattle.pack_state.specs.Past.{Past}
use Rattle.pack_state.specs.State.{balance_after, state_after}
use Rattle.pack.specs.Kept.{page_of, past_after, pack_after}
use Rattle.pack_shown.specs.Shown.{switch_after}
use Rattle.pack.specs.After.{after}
use Rattle.pack.proofs.After.{after-is}
use Rattle.pack_shown.specs.Decided.{switches-is, raised-is, mode-is}
use Rattle.bus_table.specs.Sends.{Sends}
use Rattle.bus_table.specs.declared.Sends.TheVariants.{Cell, Whole}
use Rattle.bus_table.specs.declared.PackWord.{PackWord}
use Rattle.bus_table.specs.declared.PackWord.TheVariants.{Temperature1, Temperature2, Sum, Current, ChargingCurrent, ChargingVoltage, Status, Mode, Raised, Bled, Outermost}
use Rattle.bus_table.specs.Table.{row_of_command}
use Rattle.bus_words.specs.Words.{heat_raised, status_word, status_of, raised_or_on, with_switches, pack_word, sent_word, said_after, word_after, said_of}
use Rattle.bus_words.specs.Demands.{own-bit}

-- ---- the words

module _ (page : Settings) (p : Past) where
  abbrev state : Pack
  state = state_after page p

  raised-at : (i : ℕ) → i < protections → (said_of state).raised i ≡ raised_after page.limits p.history i
  raised-at i inside = ap (λ (w : ℕ). has_bit w i) (raised-is page p) ∙ raised_word_after-has page.limits p.history i inside

  blocks-at : (switch : ℕ) → (said_of state).blocks switch ≡ (said_after page p).blocks switch
  unfolding state_after
  blocks-at switch = blocks_any-is page.limits p.history switch

  on-at : (switch : ℕ) → switch < 2 → (said_of state).on switch ≡ switch_after page p switch
  on-at switch h = ap (λ (w : ℕ). has_bit w switch) (switches-is page p) ∙ own-bit (switch_after page p) switch h

  -- Each bit of 0x45 is what the page and the past say.
  bit-at : (i : ℕ) → i < 12
      → raised_or_on (said_of state).raised (said_of state).on i ≡ raised_or_on (said_after page p).raised (said_after page p).on i
  bit-at i h =
      by-order i 8
      (λ a. rw (lt-ltb i 8 a) (raised-at i (omega arith)))
      (λ a. rw (le-ltb i 8 a) (by-order i 10
      (λ b. rw (lt-ltb i 10 b) (on-at (i - 8) (omega arith)))
      (λ b. rw (le-ltb i 10 b) (raised-at (i - 2) (omega arith)))))

  status-is : status_of (said_of state) ≡ status_of (said_after page p)
  unfolding status_word heat_raised state_after
  status-is =
      rw (
        raised-at 0 (lit< tt),
        raised-at 5 (lit< tt),
        raised-at 6 (lit< tt),
        raised-at 7 (lit< tt),
        blocks-at 0,
        blocks-at 1,
      )

  pack-word-is : (w : PackWord) → pack_word (said_of state) w ≡ pack_word (said_after page p) w
  unfolding pack_word state_after balance_after with_switches
  pack-word-is Temperature1 = refl
  pack-word-is Temperature2 = refl
  pack-word-is Sum = refl
  pack-word-is Current = refl
  pack-word-is ChargingCurrent = rw (blocks-at 0)
  pack-word-is ChargingVoltage = rw (blocks-at 0)
  pack-word-is Status = status-is
  pack-word-is Mode = mode-is page p
  pack-word-is Raised = bits-same (raised_or_on (said_of state).raised (said_of state).on) (raised_or_on (said_after page p).raised (said_after page p).on) 12 bit-at
  pack-word-is Bled = refl
  pack-word-is Outermost = refl

  -- The word of each row is the page's and the past's.
  pub sent-word-is : (row : Sends) → sent_word (said_of (state_after page p)) row ≡ sent_word (said_after page p) row
  unfolding sent_word state_after
  sent-word-is None = refl
  sent-word-is (Some (Cell k)) = refl
  sent-word-is (Some (Whole w)) = pack-word-is w

-- ---- after any load and calls

module _ (bytes : List ℕ) (es : List Event) where
  -- The word of every command is what document 01 says.
  pub word-is : (c : ℕ) → sent_word (said_of (after bytes es)) (row_of_command c) ≡ word_after (page_of bytes) (past_after bytes es) c
  unfolding pack_after word_after
  word-is c =
      ap (λ (p : Pack). sent_word (said_of p) (row_of_command c)) (after-is bytes es)
      ∙ sent-word-is (page_of bytes) (past_after bytes es) (row_of_command c)
