-- `pack_gauge::reply::other` meets its contract. Assumes nothing.
use Rattle.bus_words.specs.Bounds.{kept-bounded}
use Rattle.pack_gauge.proofs.reply.other.Goals as goal

pub reply-requires : goal.reply-requires
reply-requires c = kept-bounded _ c.k.invariant

pub returns : goal.returns
returns c = rw (← c.k.view_is) (record { value = c.reply.ensures.value.0; out_after = c.reply.ensures.out_after })
