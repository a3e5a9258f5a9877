-- `pack_numbers::offer` meets its contract. Assumes nothing.
use Rattle.pack_numbers.specs.Calls.{offered_numbers}
use Rattle.pack_numbers.proofs.offer.Goals as goal

pub returns-then-not-is_pack : goal.returns-then-not-is_pack
unfolding offered_numbers
returns-then-not-is_pack c = rw (← c.is_pack.ensures, c.if-not-is_pack.true) c.not_pack.ensures

pub returns : goal.returns
unfolding offered_numbers
returns c = rw (← c.is_pack.ensures, c.if-not-is_pack.false, ← c.pack_of.ensures.0, ← c.offer_watched-verdict.ensures)
    c.call_of.ensures
