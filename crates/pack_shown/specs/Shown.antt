-- What the state shows: the raised protections, the switches, the mode, and the five fields of a line of the replay. First from the
-- page and the past, as document 01 says it; then from the state, as the code works it out.
-- Assumes nothing.
use Rattle.std.specs.Prelude.{Option, Some, None, Bool, true, false, not, cond, ◌&&◌, List, [], ◌∷◌, ◌≡◌, refl, ℕ, ◌+◌, ◌<◌, length, drop, get_or}
use Rattle.std.proofs.Common.{add-one}
use Rattle.std.proofs.Math.Seq.{drop-cons}
use Rattle.laws.specs.Bits.{has_bit, with_bit_if, has-zero}
use Rattle.units.specs.declared.ProtectionNo.{ProtectionNo}
use Rattle.protections.specs.Table.{row_at}
use Rattle.sample.specs.declared.Sample.{Sample}
use Rattle.guard_raised.specs.Words.{raised_after, raised_word_after, blocks_after, raised_word, blocks_any}
use Rattle.bleed_wants.specs.Wants.{is_charging}
use Rattle.page_settings.specs.declared.Settings.{Settings}
use Rattle.pack_state.specs.declared.Pack.{Pack}
use Rattle.pack_shown.specs.declared.Decision.{Decision}
use Rattle.pack_state.specs.Past.{Past}
use Rattle.pack_state.specs.State.{any_sample, latest_after, tick_after, bled_after}

-- ---- switches

-- "A switch is on exactly if at least one sample was accepted, its bit is commanded, and no raised protection has its mask bit."
-- Switch 0 is charge, 1 is discharge.
abbrev pub switch_after : Settings → Past → ℕ → Bool
switch_after page p switch =
    any_sample p.history && has_bit p.standing switch && not (blocks_after page.limits p.history switch)

-- "`fets` bit 0 charge on and bit 1 discharge on."
abbrev pub switches_word : (ℕ → Bool) → ℕ
switches_word on = with_bit_if (on 1) (with_bit_if (on 0) 0 0) 1

-- ---- mode

-- The number of a mode; a protection that has none is not in the order below.
abbrev pub mode_number : Option ℕ → ℕ
mode_number None = 0
mode_number (Some m) = m

abbrev no : ℕ → ProtectionNo
no p = record { 0 = p }

-- "The number of the first raised one in the order 4, 3, 2, 0, 7, 6, 5".
unfoldable pub mode_order : List ProtectionNo
mode_order = no 4 ∷ no 3 ∷ no 2 ∷ no 0 ∷ no 7 ∷ no 6 ∷ no 5 ∷ []

unfoldable pub first_mode : (ℕ → Bool) → List ProtectionNo → ℕ → ℕ
first_mode raised [] other = other
first_mode raised (p ∷ ps) other = cond (raised p.0) (mode_number (row_at p.0).mode) (first_mode raised ps other)

-- "Else 0x03 if current is at least charge detection; else 0x02."
abbrev pub flow_mode : Bool → ℕ
flow_mode charge = cond charge 0x03 0x02

-- "Mode: 0 before the first sample; else .."
unfoldable pub mode_after : Settings → List Sample → ℕ
mode_after page h =
    cond (any_sample h)
    (first_mode (raised_after page.limits h) mode_order (flow_mode (is_charging page.rules.detection (latest_after h).current)))
    0

-- ---- a line of the replay

abbrev pub decision : ℕ → ℕ → ℕ → ℕ → ℕ → Decision
decision t r f b m = record { tick = t; raised = r; fets = f; balance = b; mode = m }

-- "`tick` is the count of accepted samples modulo 1000000, `raised` has bit p for raised p, `fets` .., `balance` is as 0x46".
unfoldable pub decision_after : Settings → Past → Decision
decision_after page p =
    decision (tick_after p.history) (raised_word_after page.limits p.history) (switches_word (switch_after page p))
    (bled_after page p.history) (mode_after page p.history)

-- ---- from the state

abbrev pub switch_on : Pack → ℕ → Bool
switch_on p switch = p.sampled && has_bit p.command switch && not (blocks_any switch p.protections)

unfoldable pub switches_of : Pack → ℕ
switches_of p = switches_word (switch_on p)

unfoldable pub mode_of : Pack → ℕ
mode_of p =
    cond p.sampled
    (first_mode (has_bit (raised_word p.protections)) mode_order (flow_mode (is_charging p.rules.detection p.latest.current)))
    0

unfoldable pub decision_of : Pack → Decision
decision_of p = decision p.tick (raised_word p.protections) (switches_of p) p.balance.bled (mode_of p)

-- ---- what the walk over the order needs

-- Where none is raised the order gives no number.
pub mode-none : (order : List ProtectionNo) (other : ℕ) → first_mode (has_bit 0) order other ≡ other
unfolding first_mode
mode-none [] other = refl
mode-none (p ∷ ps) other = rw has-zero (mode-none ps other)

module _ (raised : ℕ → Bool) (order : List ProtectionNo) (other i : ℕ) (inside : i < length order) where
  abbrev place : ProtectionNo
  place = get_or order i (no 0)

  pub mode-found : raised place.0 ≡ true → first_mode raised (drop i order) other ≡ mode_number (row_at place.0).mode
  unfolding first_mode
  mode-found t = rw (drop-cons order i (no 0) inside, t)

  pub mode-next : raised place.0 ≡ false → first_mode raised (drop i order) other ≡ first_mode raised (drop (i + 1) order) other
  unfolding first_mode
  mode-next t = rw (add-one, drop-cons order i (no 0) inside, t)
