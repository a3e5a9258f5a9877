-- DEMAND 2 ON THE REPLAY'S LINES: what the replay writes for each line is what document 01 says of the page and of the history of the
-- lines before it (crate log_answers, Says).
-- Assumes nothing.
use Rattle.std.specs.Prelude.{ℕ, ◌≡◌}
use Rattle.std.proofs.Math.Path.{refl, ap, ap₂}
use Rattle.std.proofs.Common.{◌∙◌}
use mathlib.Core.List.{List, [], ◌∷◌, ◌++◌}
use Rattle.refusals.specs.Verdicts as verdict
use Rattle.pack_state.specs.declared.Pack.{Pack}
use Rattle.pack.specs.Events.{Event}
use Rattle.pack.specs.Kept.{after_load}
use Rattle.pack.specs.After.{after}
use Rattle.log_lines.specs.Lines.{lines_of}
use Rattle.log_lines.specs.Output as any
use Rattle.log_answers.specs.Told.{Told}
use Rattle.log_answers.specs.Says.{events_with, says}
use Rattle.log_answers.proofs.Says.{line-told, line-pack}
use Rattle.log_texts.specs.Texts.{told_text, header_text}
use Rattle.pack_log.specs.Replay.{next_pack, line_text, replayed}

module _ (page : List ℕ) where
  -- What document 01 says of some lines, one behind the other.
  unfoldable pub story : List Event → List (List ℕ) → List ℕ
  story es [] = []
  story es (l ∷ ls) = told_text (says page es l) ++ story (events_with es l) ls

  pub answers-say : (es : List Event) (ls : List (List ℕ)) → any.answers next_pack line_text (after page es) ls ≡ story es ls
  unfolding story any.answers
  answers-say es [] = refl
  answers-say es (l ∷ ls) =
      ap₂ (λ (t : Told) (p : Pack). told_text t ++ any.answers next_pack line_text p ls) (line-told page es l) (line-pack page es l)
      ∙ ap (λ (z : List ℕ). told_text (says page es l) ++ z) (answers-say (events_with es l) ls)

  -- For an accepted page, the replay writes the header and what document 01 says of each line behind the events of those before it.
  pub replay-says : (log : List ℕ) → (after_load page).verdict ≡ verdict.Accepted → replayed page log ≡ header_text ++ story [] (lines_of log)
  unfolding replayed any.output
  replay-says log a = rw a (ap (λ (z : List ℕ). header_text ++ z) (answers-say [] (lines_of log)))
