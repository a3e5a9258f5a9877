-- What happens to a pack after its load: samples are offered and switches are commanded, and some of both are refused.
-- Lists have the latest first.
-- Assumes nothing.
use Rattle.std.specs.Prelude.{Ok, Err, Bool, true, false, cond, List, [], ◌∷◌, ℕ}
use Rattle.refusals.specs.Verdicts.{Verdict}
use Rattle.sample.specs.declared.Sample.{Sample}
use Rattle.pack_state.specs.Past.{Past, past}
use Rattle.pack_refusals.specs.Samples.{sample_verdict, command_verdict, trimmed}

pub data Event : Type 0 where
  offer : Sample → Event
  command : ℕ → Event

abbrev pub accepts : Verdict → Bool
accepts (Ok done) = true
accepts (Err refusal) = false

-- One event more, in a pack of n cells. A refused one leaves no trace.
unfoldable pub with_event : ℕ → Event → Past → Past
with_event n (offer s) p = cond (accepts (sample_verdict n s)) (past (trimmed s ∷ p.history) p.standing) p
with_event n (command c) p = cond (accepts (command_verdict c)) (past p.history c) p

unfoldable pub past_of : ℕ → List Event → Past
past_of n [] = past [] 0
past_of n (e ∷ es) = with_event n e (past_of n es)
