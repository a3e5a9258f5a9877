-- `bus_words::status` meets its contract. Assumes nothing.
use Rattle.bus_words.specs.Words.{heat_raised, said_of, status-built}
use Rattle.laws.specs.Bits.{has_bit}
use Rattle.bleed_wants.specs.Wants.{is_charging}
use mathlib.Core.Path.{ap, ◌∙◌}
use borrow.Author.Rules.{rules}
use Rattle.bus_words.proofs.status.Goals as goal

pub returns : goal.returns
returns c = let said = said_of c.args.p in
    status-built said.raised said.blocks (is_charging said.detection said.latest.current)
    (rw c.is_charging-charging.ensures (search rules))
    c.blocks-2.ensures
    (c.heat_raised.ensures ∙ ap (λ w. heat_raised (has_bit w)) c.raised_word-raised.ensures)
    c.blocks-3.ensures
    (c.has_bit.ensures ∙ ap (λ w. has_bit w 0) c.raised_word-raised.ensures)
    c.with_bit_if-w6.ensures
    c.with_bit_if-w7.ensures
    c.with_bit_if-w11.ensures
    c.with_bit_if-w12.ensures
    c.with_bit_if-w14.ensures
    c.with_bit_if.ensures
