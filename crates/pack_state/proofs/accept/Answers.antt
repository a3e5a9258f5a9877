-- `pack_state::accept` meets its contract. Assumes nothing.
use Rattle.guard_raised.specs.Words.{any_raised-word}
use Rattle.guard_watch.specs.Watch.{watch_of, guarded_by}
use Rattle.pack_state.proofs.accept.Goals as goal

pub step-requires : goal.step-requires
step-requires c = c.requires

pub returns : goal.returns
unfolding guarded_by watch_of
returns c = rw (
  c.next_tick.ensures,
  c.next_balance.ensures,
  c.want_at-want.ensures,
  c.step.ensures,
  any_raised-word,
)
