-- What the state of a page and a past shows is what document 01 says of them. The second demand rests on this.
-- Assumes nothing.
use Rattle.std.specs.Prelude.{◌≡◌, refl, Bool, List, [], ◌∷◌}
use Rattle.std.proofs.Math.Path.{ap}
use Rattle.std.proofs.Common.{◌∙◌, lit<}
use Rattle.std.proofs.Math.Bool.{cond}
use Prim.Native.Nat.{ℕ, ◌<◌}
use Rattle.laws.specs.Bits.{has_bit}
use Rattle.units.specs.declared.ProtectionNo.{ProtectionNo}
use Rattle.protections.specs.Table.{protections}
use Rattle.guard_raised.specs.Words.{raised_after, raised_word_after, raised_word, raised_word-is, blocks_any-is, raised_word_after-has}
use Rattle.page_settings.specs.declared.Settings.{Settings}
use Rattle.bleed_wants.specs.Wants.{is_charging}
use Rattle.pack_state.specs.Past.{Past}
use Rattle.pack_state.specs.State.{balance_after, state_after, any_sample, latest_after}
use Rattle.pack_shown.specs.Shown.{switch_after, switches_word, mode_order, first_mode, flow_mode, mode_after, decision_after, decision, switch_on, switches_of, mode_of, decision_of}

-- The order of modes has only numbers of protections.
abbrev Numbers : List ProtectionNo → Type 0
Numbers [] = Unit {0}
Numbers (p ∷ ps) = (p.0 < protections) × Numbers ps

order-inside : Numbers mode_order
unfolding mode_order
order-inside = (lit< tt, (lit< tt, (lit< tt, (lit< tt, (lit< tt, (lit< tt, (lit< tt, tt)))))))

mode-same : (f g : ℕ → Bool) (order : List ProtectionNo) (other : ℕ) → Numbers order → ((i : ℕ) → i < protections → f i ≡ g i)
    → first_mode f order other ≡ first_mode g order other
unfolding first_mode
mode-same f g [] other inside same = refl
mode-same f g (p ∷ ps) other inside same = rw (same p.0 inside.0, mode-same f g ps other inside.1 same)

decision-same : {t r r' f f' b m m' : ℕ} → r ≡ r' → f ≡ f' → m ≡ m' → decision t r f b m ≡ decision t r' f' b m'
decision-same er ef em = cc

module _ (page : Settings) (p : Past) where
  -- "A switch is on exactly if at least one sample was accepted, its bit is commanded, and no raised protection has its mask bit."
  pub switch-is : (switch : ℕ) → switch_on (state_after page p) switch ≡ switch_after page p switch
  unfolding state_after
  switch-is switch = rw (blocks_any-is page.limits p.history switch)

  -- Both switches as a word.
  pub switches-is : switches_of (state_after page p) ≡ switches_word (switch_after page p)
  unfolding switches_of
  switches-is = rw (switch-is 0, switch-is 1)

  -- The word of raised protections.
  pub raised-is : raised_word (state_after page p).protections ≡ raised_word_after page.limits p.history
  unfolding state_after
  raised-is = raised_word-is page.limits p.history

  pub mode-is : mode_of (state_after page p) ≡ mode_after page p.history
  unfolding mode_of mode_after state_after
  mode-is =
      let other : ℕ = flow_mode (is_charging page.rules.detection (latest_after p.history).current) in
      ap (λ (m : ℕ). cond (any_sample p.history) m 0)
      (ap (λ (w : ℕ). first_mode (has_bit w) mode_order other) (raised_word-is page.limits p.history)
      ∙ mode-same (has_bit (raised_word_after page.limits p.history)) (raised_after page.limits p.history) mode_order other order-inside
      (raised_word_after-has page.limits p.history))

  -- The five fields of a line of the replay.
  pub decision-is : decision_of (state_after page p) ≡ decision_after page p
  unfolding decision_of decision_after state_after balance_after
  decision-is = decision-same raised-is switches-is mode-is
