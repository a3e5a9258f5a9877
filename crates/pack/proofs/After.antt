-- A load and a list of calls, one after the other: the pack is in the state that the page and the past say. The second demand rests on this.
-- It stands in proofs/: an edit that makes a definition wrong is then refused by what it rests on.
-- Assumes nothing.
use Rattle.std.specs.Prelude.{◌≡◌, ℕ, ◌≤◌, length}
use Rattle.std.proofs.Math.Path.{ap}
use Rattle.std.proofs.Common.{◌∙◌}
use mathlib.Core.List.{List, [], ◌∷◌}
use Rattle.page_judge.specs.Page.{judged}
use Rattle.refusals.specs.Verdicts.{Accepted}
use Rattle.page_settings.specs.Good.{Good, accepted-good}
use Rattle.sample.specs.declared.Sample.{Sample}
use Rattle.bleed_wants.specs.Word.{holds_cell}
use Rattle.bleed.specs.Walk.History.{resting, start_cell}
use Rattle.pack_state.specs.declared.Pack.{Pack}
use Rattle.pack_state.specs.State.{bleds_after, state_after}
use Rattle.pack_state.specs.Past.{past}
use Rattle.pack_state.specs.Steps.{state-fresh, begun-is, rested-is}
use Rattle.pack.specs.declared.Answered.{Answered}
use Rattle.pack.specs.Events.{Event, offer, command, past_of}
use Rattle.pack.specs.Answers.{offered, commanded}
use Rattle.pack.specs.Kept.{page_of, past_after, pack_after, after_load}
use Rattle.pack.specs.Calls.{page-accepted, commanded-is}
use Rattle.pack.specs.After.{after}
use Rattle.pack.proofs.Offered.{offered-is}

-- It is the state that the page and the past say, every field of it.
pub after-is : (bytes : List ℕ) (es : List Event) → after bytes es ≡ pack_after bytes es
unfolding after_load pack_after past_of
after-is bytes [] = state-fresh (page_of bytes)
after-is bytes (offer s ∷ es) =
    ap (λ (p : Pack). (offered p s).pack) (after-is bytes es) ∙ ap (λ (a : Answered). a.pack) (offered-is bytes es s)
after-is bytes (command c ∷ es) =
    ap (λ (p : Pack). (commanded p c).pack) (after-is bytes es) ∙ ap (λ (a : Answered). a.pack) (commanded-is bytes es c)

-- What it keeps of the latest accepted sample, and no word and no line shows, for an accepted page: s is that sample, and h are those
-- before it.
module _ (bytes : List ℕ) (taken : judged bytes ≡ Accepted) (es : List Event) (s : Sample) (h : List Sample)
    (latest : (past_after bytes es).history ≡ s ∷ h) where
  good : Good (page_of bytes)
  good = rw (page-accepted bytes taken) (accepted-good bytes taken)

  is : after bytes es ≡ state_after (page_of bytes) (past (s ∷ h) (past_after bytes es).standing)
  unfolding pack_after
  is = after-is bytes es ∙ ap (λ (l : List Sample). state_after (page_of bytes) (past l (past_after bytes es).standing)) latest

  -- The start cell of that sample;
  pub begun-after : (after bytes es).balance.begun.0 ≡ start_cell (page_of bytes).rules.n (length h)
  begun-after = ap (λ (p : Pack). p.balance.begun.0) is ∙ begun-is (page_of bytes) good s h (past_after bytes es).standing

  -- bit k - 1 of `rested` is set exactly if cell k was resting at it.
  pub rested-after : (k : ℕ) → 1 ≤ k → k ≤ (page_of bytes).rules.n
      → holds_cell (after bytes es).balance.rested k ≡ resting (page_of bytes).rules.r (bleds_after (page_of bytes) h) k
  rested-after k first last =
      ap (λ (p : Pack). holds_cell p.balance.rested k) is ∙ rested-is (page_of bytes) good s h (past_after bytes es).standing k first last
