-- A line of the log is answered with what document 01 says of it, behind the events of the lines before it.
-- Assumes nothing.
use Rattle.std.specs.Prelude.{ℕ, ◌≡◌, List, ◌∷◌, Ok, Err}
use Rattle.std.proofs.Math.Path.{refl, ap}
use Rattle.std.proofs.Common.{◌∙◌}
use Rattle.refusals.specs.Verdicts.{Verdict}
use Rattle.pack_refusals.specs.Samples.{sample_verdict, command_verdict}
use Rattle.pack_state.specs.declared.Pack.{Pack}
use Rattle.pack_state.specs.State.{state_after}
use Rattle.pack.specs.Events.{Event, offer, command}
use Rattle.pack.specs.Answers.{offered, commanded}
use Rattle.pack.specs.Kept.{page_of, past_after, pack_after}
use Rattle.pack.specs.After.{after}
use Rattle.pack.proofs.After.{after-is}
use Rattle.pack_shown.specs.Shown.{decision_of}
use Rattle.pack_shown.specs.Decided.{decision-is}
use Rattle.log_entries.specs.declared.Entry.{Entry}
use Rattle.log_entries.specs.declared.Entry.TheVariants.{Offer, Command, Malformed}
use Rattle.log_entries.specs.Entry.{kind_of, read_entry}
use Rattle.log_answers.specs.Told.{Decided}
use Rattle.log_answers.specs.Tell.{told_of, answered_as, outcome_of, tell}
use Rattle.log_answers.specs.Says.{with_entry, events_with, told_after, says_as, says}

module _ (page : List ℕ) where
  cells-are : (es : List Event) → (after page es).rules.n ≡ (page_of page).rules.n
  unfolding pack_after state_after
  cells-are es = ap (λ (p : Pack). p.rules.n) (after-is page es)

  told-is : (v : Verdict) (es : List Event) → told_of v (after page es) ≡ told_after page v es
  unfolding pack_after
  told-is (Ok tt) es =
      ap Decided (ap decision_of (after-is page es) ∙ decision-is (page_of page) (past_after page es))
  told-is (Err r) es = refl

  outcome-is : (es : List Event) (e : Entry)
      → ((outcome_of (kind_of e) (answered_as (after page es) e)).told ≡ says_as page es e)
      × ((outcome_of (kind_of e) (answered_as (after page es) e)).pack ≡ after page (with_entry e es))
  unfolding outcome_of offered commanded
  outcome-is es (Offer s) = (
    told-is (sample_verdict (after page es).rules.n s) (offer s ∷ es)
        ∙ ap (λ (n : ℕ). told_after page (sample_verdict n s) (offer s ∷ es)) (cells-are es),
    refl,
  )
  outcome-is es (Command c) = (
    told-is (command_verdict c) (command c ∷ es),
    refl,
  )
  outcome-is es Malformed = (refl, refl)

  -- A line behind these events is answered with what document 01 says of it,
  pub line-told : (es : List Event) (line : List ℕ) → (tell (after page es) line).told ≡ says page es line
  unfolding tell
  line-told es line = (outcome-is es (read_entry line)).0

  -- and the pack behind it is the one behind these events and the line's.
  pub line-pack : (es : List Event) (line : List ℕ) → (tell (after page es) line).pack ≡ after page (events_with es line)
  unfolding tell
  line-pack es line = (outcome-is es (read_entry line)).1
