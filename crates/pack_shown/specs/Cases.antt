-- Computed cases: the number of each protection's mode, the order with several raised, the mode by a page's own detection current, and the
-- bits of the switches.
-- Assumes nothing.
use Rattle.std.specs.Prelude.{◌≡◌, refl, Bool, true, false, [], ◌∷◌, map, ℕ, eqb, ℤ, pos, replicate}
use Rattle.laws.specs.Bits.{has_bit, with_bit, with_bit_if}
use Rattle.protections.specs.Table.{row_at, table}
use Rattle.sample.specs.declared.Sample.{Sample}
use Rattle.sample.specs.Cases.{sampled, below_zero}
use Rattle.sample.specs.Cells.{best_of, extremes_of}
use Rattle.sample.specs.Measure.{measure}
use Rattle.guard.specs.Steps.{raised}
use Rattle.page_settings.specs.Cases.{unlike}
use Rattle.pack_shown.specs.Shown.{switches_word, mode_number, mode_order, first_mode, flow_mode, mode_after}

-- The last column of the table of protections, 0 for "none".
pub mode-numbers
    : map (λ p. mode_number (row_at p).mode) (0 ∷ 1 ∷ 2 ∷ 3 ∷ 4 ∷ 5 ∷ 6 ∷ 7 ∷ [])
    ≡ (0x15 ∷ 0 ∷ 0x12 ∷ 0x13 ∷ 0x14 ∷ 0x10 ∷ 0x11 ∷ 0x16 ∷ [])
unfolding row_at table
mode-numbers = refl

-- "The first raised one in the order 4, 3, 2, 0, 7, 6, 5": one fewer raised each time, and 1 has no mode.
pub mode-order
    : map (λ w. first_mode (has_bit w) mode_order 0x03) (0xFF ∷ 0xEF ∷ 0xE7 ∷ 0xE3 ∷ 0xE2 ∷ 0x62 ∷ 0x22 ∷ 0x02 ∷ [])
    ≡ (0x14 ∷ 0x13 ∷ 0x12 ∷ 0x15 ∷ 0x16 ∷ 0x11 ∷ 0x10 ∷ 0x03 ∷ [])
unfolding first_mode mode_order has_bit row_at table
mode-order = refl

-- "Else 0x03 if current is at least charge detection; else 0x02."
pub flow-modes : map flow_mode (true ∷ false ∷ []) ≡ (0x03 ∷ 0x02 ∷ [])
flow-modes = refl

-- A page whose detection current is 150 mA, with nothing raised: 150 mA is charge, and 149, 100, 99, 0 and -1 mA are not.
abbrev one : ℤ → Sample
one current = sampled 7 (replicate 10 4000) current 2980 2980

pub flow-by-words
    : map (λ z. mode_after unlike (one z ∷ [])) (pos 150 ∷ pos 149 ∷ pos 100 ∷ pos 99 ∷ pos 0 ∷ below_zero 1 ∷ [])
    ≡ (0x03 ∷ 0x02 ∷ 0x02 ∷ 0x02 ∷ 0x02 ∷ 0x02 ∷ [])
unfolding mode_after first_mode mode_order raised row_at table measure extremes_of best_of
flow-by-words = refl

-- "`fets` bit 0 charge on and bit 1 discharge on": none, charge alone, discharge alone.
abbrev neither : ℕ → Bool
neither switch = false

pub switch-words : map switches_word (neither ∷ eqb 0 ∷ eqb 1 ∷ []) ≡ (0 ∷ 1 ∷ 2 ∷ [])
unfolding with_bit_if with_bit
switch-words = refl
