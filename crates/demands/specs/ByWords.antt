-- Who wants, the mode and the words on the bus, by the page's own words and by what is shown, after any load and any calls.
-- Assumes nothing.
use Rattle.std.specs.Prelude.{◌≡◌, Bool, false, ℕ, ◌*◌, eqb}
use Rattle.std.proofs.Math.Path.{sym, ap}
use Rattle.std.proofs.Common.{◌∙◌}
use Rattle.std.proofs.Math.Bool.{not, cond}
use mathlib.Core.List.{List, ◌∷◌}
use Rattle.std.proofs.Math.ListN.{get_or}
use Rattle.units.specs.Signed.{signed_of}
use Rattle.page_words.specs.Ranges.{word_at}
use Rattle.page_judge.specs.Page.{judged}
use Rattle.refusals.specs.Verdicts.{Accepted}
use Rattle.page_settings.specs.declared.Settings.{Settings}
use Rattle.page_settings.specs.Settings.{settings_of, rules_of}
use Rattle.sample.specs.declared.Sample.{Sample}
use Rattle.sample.specs.Cells.{extremes_of}
use Rattle.guard_raised.specs.Words.{raised_after, raised_word_after, any_raised_after, blocks_after, any_raised_after-word}
use Rattle.bleed_wants.specs.Wants.{is_charging, wants}
use Rattle.bleed_wants.specs.Steps.{wishes, volts_of}
use Rattle.pack_state.specs.State.{wish_at, wishes_after, bled_after, latest_after}
use Rattle.pack.specs.Events.{Event}
use Rattle.pack.specs.Kept.{page_of, past_after}
use Rattle.pack.specs.Calls.{page-accepted}
use Rattle.pack_shown.specs.declared.Decision.{Decision}
use Rattle.pack_shown.specs.Shown.{decision_after, mode_after, mode_order, first_mode, flow_mode}
use Rattle.bus_table.specs.Table.{table, row_of_command}
use Rattle.bus_words.specs.Words.{status_word, pack_word, sent_word, word_after}
use Rattle.bus_words.specs.Demands.{charging-current-is}
use Rattle.demands.specs.Shown.{shown, samples, wanted, nobody, shown-is, shown-balance, none-wanting}

-- ---- after any load and any calls

module _ (bytes : List ℕ) (es : List Event) where
  abbrev word : ℕ → ℕ
  word c = word_after (page_of bytes) (past_after bytes es) c

  raised-field : (shown bytes es).raised ≡ raised_word_after (page_of bytes).limits (samples bytes es)
  unfolding decision_after
  raised-field = ap (λ (d : Decision). d.raised) (shown-is bytes es)

  -- "`balance` is as 0x46", and the mode is that of 0x41.
  pub balance-as-46 : word 0x46 ≡ (shown bytes es).balance
  unfolding decision_after word_after row_of_command table sent_word pack_word
  balance-as-46 = sym (ap (λ (d : Decision). d.balance) (shown-is bytes es))

  pub mode-as-41 : word 0x41 ≡ (shown bytes es).mode
  unfolding decision_after word_after row_of_command table sent_word pack_word
  mode-as-41 = sym (ap (λ (d : Decision). d.mode) (shown-is bytes es))

-- ---- at the latest accepted sample s of an accepted page

module _ (bytes : List ℕ) (taken : judged bytes ≡ Accepted) (es : List Event) (s : Sample) (h : List Sample) (latest : samples bytes es ≡ s ∷ h) where
  abbrev none : Bool
  none = eqb (shown bytes es).raised 0

  abbrev charging : Bool
  charging = is_charging (signed_of (word_at bytes 6)) s.current

  abbrev wish : Settings → Bool → ℕ → Bool
  wish page up = wishes (is_charging page.rules.detection s.current) up page.rules.floor.0 page.rules.difference.0
      (extremes_of s.cells s.count).lowest.volts.0 s.cells

  -- "A cell wants bleeding if the current is at least the charge detection current (word 6), no protection is raised, the cell is at or above
  -- the floor (word 4), and it exceeds the lowest cell by more than the difference (word 5)."
  pub wants-by-words : (k : ℕ) → get_or (wanted bytes es) 0 nobody k
      ≡ wants charging (not none) (word_at bytes 4) (word_at bytes 5) (extremes_of s.cells s.count).lowest.volts.0 (volts_of s.cells k)
  unfolding wishes_after wish_at wishes settings_of rules_of
  wants-by-words k =
      let up : any_raised_after (page_of bytes).limits (s ∷ h) ≡ not none =
      any_raised_after-word (page_of bytes).limits (s ∷ h)
      ∙ ap (λ (l : List Sample). not (eqb (raised_word_after (page_of bytes).limits l) 0)) (sym latest)
      ∙ ap (λ (w : ℕ). not (eqb w 0)) (sym (raised-field bytes es)) in
      ap (λ (l : List Sample). get_or (wishes_after (page_of bytes) l) 0 nobody k) latest
      ∙ ap (λ (b : Bool). wish (page_of bytes) b k) up
      ∙ ap (λ (page : Settings). wish page (not none) k) (page-accepted bytes taken)

  -- So nothing is bled while the current is below the charge detection current.
  pub none-below-detection : charging ≡ false → (shown bytes es).balance ≡ 0
  unfolding wish_at wishes wants settings_of rules_of
  none-below-detection t =
      shown-balance bytes es
      ∙ ap (bled_after (page_of bytes)) latest
      ∙ none-wanting (page_of bytes) s h (λ k. rw (page-accepted bytes taken, t))

  -- "Else 0x03 if current is at least charge detection (word 6); else 0x02."
  pub mode-by-words : (shown bytes es).mode ≡ first_mode (raised_after (page_of bytes).limits (samples bytes es)) mode_order (flow_mode charging)
  unfolding decision_after mode_after settings_of rules_of
  mode-by-words =
      ap (λ (d : Decision). d.mode) (shown-is bytes es)
      ∙ ap (mode_after (page_of bytes)) latest
      ∙ ap (λ (page : Settings). first_mode (raised_after (page_of bytes).limits (s ∷ h)) mode_order (flow_mode (is_charging page.rules.detection s.current))) (page-accepted bytes taken)
      ∙ ap (λ (l : List Sample). first_mode (raised_after (page_of bytes).limits l) mode_order (flow_mode charging)) (sym latest)

  -- "0x0040 if the current is below charge detection."
  pub status-by-words : word bytes es 0x16
      ≡ status_word (raised_after (page_of bytes).limits (samples bytes es)) (blocks_after (page_of bytes).limits (samples bytes es)) charging
  unfolding word_after row_of_command table sent_word pack_word settings_of rules_of
  status-by-words =
      ap (λ (l : List Sample). status_word (raised_after (page_of bytes).limits (samples bytes es)) (blocks_after (page_of bytes).limits (samples bytes es))
      (is_charging (page_of bytes).rules.detection (latest_after l).current)) latest
      ∙ ap (λ (page : Settings). status_word (raised_after (page_of bytes).limits (samples bytes es)) (blocks_after (page_of bytes).limits (samples bytes es))
      (is_charging page.rules.detection s.current)) (page-accepted bytes taken)

  -- "0x14, 0x15: word 8; n × word 7. Both 0 if a raised protection blocks charge."
  pub current-by-words : word bytes es 0x14 ≡ cond (blocks_after (page_of bytes).limits (samples bytes es) 0) 0 (word_at bytes 8)
  unfolding word_after row_of_command table sent_word pack_word
  current-by-words =
      ap (λ (w : ℕ). cond (blocks_after (page_of bytes).limits (samples bytes es) 0) 0 w) (charging-current-is bytes taken)

  pub voltage-by-words : word bytes es 0x15 ≡ cond (blocks_after (page_of bytes).limits (samples bytes es) 0) 0 (word_at bytes 1 * word_at bytes 7)
  unfolding word_after row_of_command table sent_word pack_word settings_of rules_of
  voltage-by-words =
      ap (λ (page : Settings). cond (blocks_after (page_of bytes).limits (samples bytes es) 0) 0 (page.rules.n * page.rules.voltage.0)) (page-accepted bytes taken)
