-- `pack_numbers::command` meets its contract. Assumes nothing.
use Rattle.pack_numbers.specs.Calls.{commanded_numbers}
use Rattle.pack_numbers.proofs.command.Goals as goal

pub returns-then-not-is_pack : goal.returns-then-not-is_pack
unfolding commanded_numbers
returns-then-not-is_pack c = rw (← c.is_pack.ensures, c.if-not-is_pack.true) c.not_pack.ensures

pub returns : goal.returns
unfolding commanded_numbers
returns c = rw (← c.is_pack.ensures, c.if-not-is_pack.false, ← c.pack_of.ensures.0, ← c.command_any-verdict.ensures)
    c.call_of.ensures
