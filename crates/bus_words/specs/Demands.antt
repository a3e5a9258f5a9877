-- What single words say: the bits of 0x45, the bled cells, the bytes of 0x47. DEMAND 2 ON THE BUS, the words, is shown in proofs/Demands.antt.
-- Assumes nothing.
use Rattle.std.specs.Prelude.{◌≡◌, Bool, true, false, List, ℕ, zero, suc, ◌%◌, ◌/◌, ◌≤◌, ◌<◌, Some, None}
use Rattle.std.proofs.Math.Path.{refl, ap}
use Rattle.std.proofs.Common.{◌∙◌, lit<, lt-ltb}
use native.Mathlib.Omega.{arith}
use Rattle.std.specs.Int.Count.{ones}
use Rattle.laws.specs.Bits.{has_bit, with_bit, with_bit_if}
use Rattle.units.specs.declared.MilliVolts.{MilliVolts}
use Rattle.units.specs.Cells.{ten_at_most, ten-most}
use Rattle.laws.specs.Words.{bits-has, bits-past}
use Rattle.units.specs.Signed.{word_of, word-signed}
use Rattle.page_words.specs.Ranges.{word_at}
use Rattle.page_judge.specs.Page.{judged}
use Rattle.page_judge.specs.Accepted.{accepted-inside}
use Rattle.refusals.specs.Verdicts.{Accepted}
use Rattle.guard_raised.specs.Words.{raised_after}
use Rattle.page_settings.specs.declared.Settings.{Settings}
use Rattle.page_settings.specs.Settings.{rules_of, settings_of}
use Rattle.bleed.proofs.Walk.Balance.{bled-few}
use Rattle.sample.specs.declared.Sample.{Sample}
use Rattle.sample.specs.Cells.{best_of, highest, lowest, extremes_of, highest-number, lowest-number}
use Rattle.pack_state.specs.Past.{Past, past}
use Rattle.pack_state.specs.State.{wishes_after, by_page, bled_after, latest_after}
use Rattle.pack.specs.Kept.{page_of}
use Rattle.pack_shown.specs.Shown.{switch_after, switches_word}
use Rattle.pack.specs.Calls.{page-accepted}
use Rattle.bus_table.specs.Sends.{Sends, Whole}
use Rattle.bus_table.specs.declared.Sends.TheVariants as row
use Rattle.bus_table.specs.declared.PackWord.{PackWord}
use Rattle.bus_table.specs.declared.PackWord.TheVariants.{Temperature1, Temperature2, Sum, Current, ChargingCurrent, ChargingVoltage, Status, Mode, Raised, Bled, Outermost}
use Rattle.bus_table.specs.Table.{table, row_of_command}
use Rattle.bus_words.specs.Words.{raised_or_on, with_switches, numbers_word, pack_word, sent_word, said_after, word_after}

-- ---- the words

-- The two bits of the switches' word.
switch-bits : (on : ℕ → Bool) → (has_bit (switches_word on) 0 ≡ on 0) × (has_bit (switches_word on) 1 ≡ on 1)
unfolding has_bit with_bit_if with_bit
switch-bits on = bits (on 0) (on 1)
  where
    bits : (a b : Bool) → (has_bit (with_bit_if b (with_bit_if a 0 0) 1) 0 ≡ a) × (has_bit (with_bit_if b (with_bit_if a 0 0) 1) 1 ≡ b)
    bits true true = (refl, refl)
    bits true false = (refl, refl)
    bits false true = (refl, refl)
    bits false false = (refl, refl)

-- A pack has ten cells at most, so that each number has a byte to itself.
found-ten : (cells : List MilliVolts) (count : ℕ) → let e = extremes_of cells count in (e.highest.number.0 ≤ 10) × (e.lowest.number.0 ≤ 10)
unfolding extremes_of best_of
found-ten cells count = few (ten_at_most count) (ten-most count)
  where
    few : (n : ℕ) → n ≤ 10 → ((highest cells n).number.0 ≤ 10) × ((lowest cells n).number.0 ≤ 10)
    few zero h = (omega arith, omega arith)
    few (suc k) h =
        let a = (highest-number cells (suc k) (omega arith)).1 in
        let b = (lowest-number cells (suc k) (omega arith)).1 in
        (omega arith, omega arith)

pub own-bit : (on : ℕ → Bool) (switch : ℕ) → switch < 2 → has_bit (switches_word on) switch ≡ on switch
own-bit on zero h = (switch-bits on).0
own-bit on (suc zero) h = (switch-bits on).1
own-bit on (suc (suc i)) h = absurd (omega arith)

-- The bits of 0x45, one by one: raised p below 8, the two switches, and raised 8 and 9; there are no others.
module _ (raised on : ℕ → Bool) where
  bit-is : (i : ℕ) → i < 12 → has_bit (with_switches raised on) i ≡ raised_or_on raised on i
  unfolding with_switches
  bit-is i h = bits-has (raised_or_on raised on) 12 i (omega arith) h

  pub bit-raised : (p : ℕ) → p < 8 → has_bit (with_switches raised on) p ≡ raised p
  bit-raised p h = bit-is p (omega arith) ∙ rw (lt-ltb p 8 h)

  pub bit-on : (has_bit (with_switches raised on) 8 ≡ on 0) × (has_bit (with_switches raised on) 9 ≡ on 1)
  bit-on = (bit-is 8 (lit< tt), bit-is 9 (lit< tt))

  pub bit-cold : (has_bit (with_switches raised on) 10 ≡ raised 8) × (has_bit (with_switches raised on) 11 ≡ raised 9)
  bit-cold = (bit-is 10 (lit< tt), bit-is 11 (lit< tt))

  pub bit-none : (i : ℕ) → 12 ≤ i → has_bit (with_switches raised on) i ≡ false
  unfolding with_switches
  bit-none i h = bits-past (raised_or_on raised on) 12 i h

module _ (page : Settings) (p : Past) where
  -- 0x45 has the bits above, of the raised protections and the switches that the page and the past say.
  pub word-0x45 : word_after page p 0x45 ≡ with_switches (raised_after page.limits p.history) (switch_after page p)
  unfolding word_after row_of_command table sent_word pack_word
  word-0x45 = refl

  -- "Never more set bits than K."
  pub bled-word-few : ones (word_after page p 0x46) ≤ page.rules.k
  unfolding word_after row_of_command table sent_word pack_word bled_after
  bled-word-few = by_page page bled-few (wishes_after page p.history)

  -- "The highest cell's number in the low byte and the lowest cell's in the high byte."
  pub outermost-bytes : let e = extremes_of (latest_after p.history).cells (latest_after p.history).count in
      (word_after page p 0x47 % 256 ≡ e.highest.number.0) × (word_after page p 0x47 / 256 ≡ e.lowest.number.0)
  unfolding word_after row_of_command table sent_word pack_word numbers_word
  outermost-bytes =
      let few = found-ten (latest_after p.history).cells (latest_after p.history).count in
      let a = few.0 in
      let b = few.1 in
      (omega arith, omega arith)

-- "Values are those of the latest accepted sample; bits 8 and 9 of 0x45 also follow a later switch command": no other word does.
module _ (page : Settings) (h : List Sample) (c d : ℕ) where
  whole-kept : (w : PackWord) → (w ≡ Raised → ⊥) → pack_word (said_after page (past h c)) w ≡ pack_word (said_after page (past h d)) w
  unfolding pack_word
  whole-kept Temperature1 ne = refl
  whole-kept Temperature2 ne = refl
  whole-kept Sum ne = refl
  whole-kept Current ne = refl
  whole-kept ChargingCurrent ne = refl
  whole-kept ChargingVoltage ne = refl
  whole-kept Status ne = refl
  whole-kept Mode ne = refl
  whole-kept Raised ne = absurd (ne refl)
  whole-kept Bled ne = refl
  whole-kept Outermost ne = refl

  pub command-moves-0x45 : (row : Sends) → (row ≡ Whole Raised → ⊥)
      → sent_word (said_after page (past h c)) row ≡ sent_word (said_after page (past h d)) row
  unfolding sent_word
  command-moves-0x45 None ne = refl
  command-moves-0x45 (Some (row.Cell k)) ne = refl
  command-moves-0x45 (Some (row.Whole w)) ne = whole-kept w (λ e. ne (ap Whole e))

-- Word 8 of an accepted page, as it stands on the page.
pub charging-current-is : (bytes : List ℕ) → judged bytes ≡ Accepted → word_of (page_of bytes).rules.current ≡ word_at bytes 8
unfolding settings_of rules_of
charging-current-is bytes taken =
    let range = (accepted-inside bytes taken 8 (omega arith)).1 in
    rw (page-accepted bytes taken) (word-signed (word_at bytes 8) (omega arith))
