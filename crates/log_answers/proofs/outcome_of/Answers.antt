-- `log_answers::outcome_of` meets its contract. Assumes nothing.
use Rattle.log_answers.specs.Tell.{outcome_of}
use Rattle.pack.specs.Calls.{kept-watched}
use Rattle.log_answers.proofs.outcome_of.Goals as goal
use Rattle.log_answers.proofs.outcome_of.Goals.{in-Ok, in-Err}

pub decide-requires : goal.decide-requires
decide-requires c = kept-watched _ c.pack.invariant

pub returns : goal.returns
unfolding outcome_of
returns c =
    elim c.match-verdict.branch [
      | in-Ok w ↦ rw (w.told-is, w.in-Ok.is, w.decide.ensures, ← c.pack.view_is)
      | in-Err w ↦ rw (w.told-is, w.in-Err.is)
    ]
