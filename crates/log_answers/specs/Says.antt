-- WHAT DOCUMENT 01 SAYS OF A LINE of the log, behind the events of the lines before it, by the page and the history alone. That a line is
-- answered so is shown in proofs/Says.
-- Assumes nothing.
use Rattle.std.specs.Prelude.{ℕ, List, [], ◌∷◌, Ok, Err}
use Rattle.refusals.specs.Verdicts.{Verdict}
use Rattle.pack_refusals.specs.Samples.{sample_verdict, command_verdict}
use Rattle.pack.specs.Events.{Event, offer, command}
use Rattle.pack.specs.Kept.{page_of, past_after}
use Rattle.pack_shown.specs.Shown.{decision_after}
use Rattle.log_entries.specs.declared.Entry.{Entry}
use Rattle.log_entries.specs.declared.Entry.TheVariants.{Offer, Command, Malformed}
use Rattle.log_entries.specs.Entry.{read_entry}
use Rattle.log_answers.specs.Told.{Told, Decided, Refused}

-- The events of the lines so far, the latest first, and those of one line more: a malformed line is none.
abbrev pub with_entry : Entry → List Event → List Event
with_entry (Offer s) es = offer s ∷ es
with_entry (Command c) es = command c ∷ es
with_entry Malformed es = es

abbrev pub events_with : List Event → List ℕ → List Event
events_with es line = with_entry (read_entry line) es

-- The events of some lines in time order, behind those of the lines before them.
unfoldable pub events_behind : List Event → List (List ℕ) → List Event
events_behind es [] = es
events_behind es (l ∷ ls) = events_behind (events_with es l) ls

module _ (page : List ℕ) where
  -- The refusal's number, or what document 01 says of the page and the past with this event: decision_after speaks of no state.
  abbrev pub told_after : Verdict → List Event → Told
  told_after (Ok tt) es = Decided (decision_after (page_of page) (past_after page es))
  told_after (Err r) es = Refused r.number

  -- What document 01 says of a line behind these events.
  abbrev pub says_as : List Event → Entry → Told
  says_as es (Offer s) = told_after (sample_verdict (page_of page).rules.n s) (offer s ∷ es)
  says_as es (Command c) = told_after (command_verdict c) (command c ∷ es)
  says_as es Malformed = Refused 17

  abbrev pub says : List Event → List ℕ → Told
  says es line = says_as es (read_entry line)
