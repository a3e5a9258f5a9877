-- The word of each row of the table, as document 01 says it: of the page and the past, and of a state.
-- Assumes nothing.
use Rattle.std.specs.Prelude.{◌≡◌, refl, Bool, true, not, cond, ◌&&◌, ◌||◌, List, [], ◌∷◌, ℕ, zero, suc, ◌+◌, ◌-◌, ◌*◌, ◌≤◌, ◌<◌, leb, ltb, ℤ, get_or, Some, None}
use Rattle.std.proofs.Common.{ap, add-one, arith, le-leb, leb-true}
use Rattle.std.proofs.lemmas.Bool.{lt-leb}
use Rattle.std.specs.Int.Bits.{bit_or}
use Rattle.laws.specs.Bits.{has_bit, with_bit, with_bit_if}
use Rattle.laws.specs.Tests.{and-left, and-right}
use Rattle.laws.specs.Words.{bits_of}
use Rattle.units.specs.declared.MilliVolts.{MilliVolts}
use Rattle.units.specs.Signed.{word_of}
use Rattle.sample.specs.declared.Sample.{Sample}
use Rattle.sample.specs.declared.Extremes.{Extremes}
use Rattle.units.specs.Cells.{ten_at_most}
use Rattle.sample.specs.Cells.{no_volts, extremes_of}
use Rattle.guard_raised.specs.Words.{raised_after, raised_word, blocks_after, blocks_any}
use Rattle.bleed_wants.specs.Wants.{is_charging}
use Rattle.page_settings.specs.declared.Settings.{Settings}
use Rattle.pack_state.specs.declared.Pack.{Pack}
use Rattle.pack_state.specs.Past.{Past}
use Rattle.pack_state.specs.State.{latest_after, bled_after, Watched}
use Rattle.pack_shown.specs.Shown.{switch_after, switches_of, mode_after, mode_of}
use Rattle.bus_table.specs.Sends.{Sends}
use Rattle.bus_table.specs.declared.Sends.TheVariants.{Cell, Whole}
use Rattle.bus_table.specs.declared.PackWord.{PackWord}
use Rattle.bus_table.specs.declared.PackWord.TheVariants.{Temperature1, Temperature2, Sum, Current, ChargingCurrent, ChargingVoltage, Status, Mode, Raised, Bled, Outermost}
use Rattle.bus_table.specs.Table.{row_of_command}

-- What the words are read from.
pub record Said : Type 0 where
  -- the page's n, charge detection current, charging voltage per cell (word 7) and charging current (word 8)
  pub n : ℕ
  pub detection : ℤ
  pub voltage : MilliVolts
  pub current : ℤ
  -- the latest accepted sample, and the mode and the bled cells after it
  pub latest : Sample
  pub mode : ℕ
  pub bled : ℕ
  -- whether protection p is raised, and whether a raised one blocks a switch: 0 is charge, 1 is discharge
  pub raised : ℕ → Bool
  pub blocks : ℕ → Bool
  -- whether a switch is on
  pub on : ℕ → Bool

-- ---- the words

-- The sum of the first k cells.
unfoldable pub sum_to : List MilliVolts → ℕ → ℕ
sum_to cells zero = 0
sum_to cells (suc k) = sum_to cells k + (get_or cells k no_volts).0

-- "The sum of the cells."
abbrev pub sum_word : Sample → ℕ
sum_word s = sum_to s.cells (ten_at_most s.count)

-- Cell k; a number that no cell has reads as 0.
unfoldable pub cell_word : List MilliVolts → ℕ → ℕ
cell_word cells zero = 0
cell_word cells (suc i) = cond (leb (suc i) 10) (get_or cells i no_volts).0 0

-- "The highest cell's number in the low byte and the lowest cell's in the high byte."
unfoldable pub numbers_word : Extremes → ℕ
numbers_word e = e.highest.number.0 + 256 * e.lowest.number.0

-- A bit of a word: its value, and whether it is set.
pub record Bit : Type 0 where
  pub value : ℕ
  pub set : Bool

abbrev bit : ℕ → Bool → Bit
bit v s = record { value = v; set = s }

abbrev with_bits : List Bit → ℕ
with_bits [] = 0
with_bits (b ∷ bs) = cond b.set (bit_or (with_bits bs) b.value) (with_bits bs)

-- "5, 6 or 7 is raised."
unfoldable pub heat_raised : (ℕ → Bool) → Bool
heat_raised raised = raised 5 || raised 6 || raised 7

-- "Battery status: 0x8000 if 0 is raised, 0x4000 if a raised one blocks charge, 0x1000 if 5, 6 or 7 is raised, 0x0800 if a raised one
-- blocks discharge, 0x0080 always, 0x0040 if the current is below charge detection; other bits 0."
unfoldable pub status_word : (ℕ → Bool) → (ℕ → Bool) → Bool → ℕ
status_word raised blocks charges =
    with_bits
    (bit 0x8000 (raised 0)
    ∷ bit 0x4000 (blocks 0)
    ∷ bit 0x1000 (heat_raised raised)
    ∷ bit 0x0800 (blocks 1)
    ∷ bit 0x0080 true
    ∷ bit 0x0040 (not charges)
    ∷ [])

-- What bit i of 0x45 says. "Bit p for raised p; bit 8 charge switch on, bit 9 discharge switch on"; of 8 and 9, "in 0x45 they are bits 10
-- and 11".
abbrev pub raised_or_on : (ℕ → Bool) → (ℕ → Bool) → ℕ → Bool
raised_or_on raised on i = cond (ltb i 8) (raised i) (cond (ltb i 10) (on (i - 8)) (raised (i - 2)))

unfoldable pub with_switches : (ℕ → Bool) → (ℕ → Bool) → ℕ
with_switches raised on = bits_of (raised_or_on raised on) 12

module _ (x : Said) where
  abbrev pub status_of : ℕ
  status_of = status_word x.raised x.blocks (is_charging x.detection x.latest.current)

  abbrev pub raised_and_switches : ℕ
  raised_and_switches = with_switches x.raised x.on

  -- "Both 0 if a raised protection blocks charge."
  abbrev unless_blocked : ℕ → ℕ
  unless_blocked w = cond (x.blocks 0) 0 w

  -- The words of the pack.
  unfoldable pub pack_word : PackWord → ℕ
  pack_word Temperature1 = x.latest.t1.0
  pack_word Temperature2 = x.latest.t2.0
  pack_word Sum = sum_word x.latest
  pack_word Current = word_of x.latest.current
  pack_word ChargingCurrent = unless_blocked (word_of x.current)
  pack_word ChargingVoltage = unless_blocked (x.n * x.voltage.0)
  pack_word Status = status_of
  pack_word Mode = x.mode
  pack_word Raised = raised_and_switches
  pack_word Bled = x.bled
  pack_word Outermost = numbers_word (extremes_of x.latest.cells x.latest.count)

  -- The word of a row; 0 where there is none.
  unfoldable pub sent_word : Sends → ℕ
  sent_word None = 0
  sent_word (Some (Cell k)) = cell_word x.latest.cells k.0
  sent_word (Some (Whole w)) = pack_word w

-- ---- from the page and the past

-- "Values are those of the latest accepted sample; bits 8 and 9 of 0x45 also follow a later switch command."
abbrev pub said_after : Settings → Past → Said
said_after page p =
    record {
      n = page.rules.n;
      detection = page.rules.detection;
      voltage = page.rules.voltage;
      current = page.rules.current;
      latest = latest_after p.history;
      mode = mode_after page p.history;
      bled = bled_after page p.history;
      raised = raised_after page.limits p.history;
      blocks = blocks_after page.limits p.history;
      on = switch_after page p;
    }

-- The word of a command, as document 01 says it of the page and the past.
unfoldable pub word_after : Settings → Past → ℕ → ℕ
word_after page p c = sent_word (said_after page p) (row_of_command c)

-- ---- from the state

abbrev pub said_of : Pack → Said
said_of p =
    record {
      n = p.rules.n;
      detection = p.rules.detection;
      voltage = p.rules.voltage;
      current = p.rules.current;
      latest = p.latest;
      mode = mode_of p;
      bled = p.balance.bled;
      raised = has_bit (raised_word p.protections);
      blocks = λ switch. blocks_any switch p.protections;
      on = has_bit (switches_of p);
    }

-- What the words of a state rest on: ten cells of 6000 mV, and that it keeps what its protections say.
pub record Bounded (p : Pack) : Type 0 where
  pub sum : sum_word p.latest ≤ 60000
  pub voltage : p.rules.n * p.rules.voltage.0 ≤ 60000
  pub watched : Watched p

-- The same of its numbers as a test.
unfoldable pub is_bounded : Pack → Bool
is_bounded p = leb (sum_word p.latest) 60000 && leb (p.rules.n * p.rules.voltage.0) 60000

pub bounded-from : (p : Pack) → is_bounded p ≡ true → Watched p → Bounded p
unfolding is_bounded
bounded-from p e w =
    record {
      sum = leb-true (sum_word p.latest) 60000 (and-left (leb (sum_word p.latest) 60000) (leb (p.rules.n * p.rules.voltage.0) 60000) e);
      voltage = leb-true (p.rules.n * p.rules.voltage.0) 60000 (and-right (leb (sum_word p.latest) 60000) (leb (p.rules.n * p.rules.voltage.0) 60000) e);
      watched = w;
    }

pub bounded-test : (p : Pack) → Bounded p → is_bounded p ≡ true
unfolding is_bounded
bounded-test p b = rw (le-leb (sum_word p.latest) 60000 b.sum, le-leb (p.rules.n * p.rules.voltage.0) 60000 b.voltage)

-- ---- what the code needs of them

-- One cell more: cells are of 16 bits, so that ten of them come to less than 32 bits hold.
pub sum-next : (cells : List MilliVolts) (i sum : ℕ) → sum ≡ sum_to cells i → sum + (get_or cells i no_volts).0 ≡ sum_to cells (i + 1)
unfolding sum_to
sum-next cells i sum e = rw (add-one, e)

pub sum-none : (cells : List MilliVolts) → 0 ≡ sum_to cells 0
unfolding sum_to
sum-none cells = refl

pub cell-zero : (cells : List MilliVolts) (k : ℕ) → k ≡ 0 → 0 ≡ cell_word cells k
unfolding cell_word
cell-zero cells k e = rw e

pub cell-past : (cells : List MilliVolts) (k : ℕ) → 10 < k → 0 ≡ cell_word cells k
unfolding cell_word
cell-past cells zero h = refl
cell-past cells (suc i) h = rw (lt-leb (suc i) 10 h)

pub cell-there : (cells : List MilliVolts) (k : ℕ) → (k ≡ 0 → ⊥) → k ≤ 10 → (get_or cells (k - 1) no_volts).0 ≡ cell_word cells k
unfolding cell_word
cell-there cells zero ne h = absurd (ne refl)
cell-there cells (suc i) ne h = rw (le-leb (suc i) 10 h) (ap (λ (x : ℕ). (get_or cells x no_volts).0) (let e : suc i - 1 ≡ i = omega arith in e))

-- The status word bit by bit, the lowest first.
pub status-built : (raised blocks : ℕ → Bool) (charges : Bool) {c d h k z : Bool} {w6 w7 w11 w12 w14 w15 : ℕ}
    → c ≡ charges → d ≡ blocks 1 → h ≡ heat_raised raised → k ≡ blocks 0 → z ≡ raised 0
    → w6 ≡ with_bit_if (not c) 0 6 → w7 ≡ with_bit_if true w6 7 → w11 ≡ with_bit_if d w7 11 → w12 ≡ with_bit_if h w11 12
    → w14 ≡ with_bit_if k w12 14 → w15 ≡ with_bit_if z w14 15 → w15 ≡ status_word raised blocks charges
unfolding status_word with_bit_if with_bit
status-built raised blocks charges ec ed eh ek ez e6 e7 e11 e12 e14 e15 =
    rw (e15, e14, e12, e11, e7, e6, ez, ek, eh, ed, ec)
