-- `bus_words::raised_or_on` meets its contract. Assumes nothing.
use borrow.Author.Tests.{lt-ltb, le-ltb}
use Rattle.bus_words.proofs.raised_or_on.Goals as goal

pub returns-then-i-lt8 : goal.returns-then-i-lt8
returns-then-i-lt8 c = rw (lt-ltb _ 8 c.if-i-lt8.true) c.has_bit.ensures

pub returns-then-i-lt10 : goal.returns-then-i-lt10
returns-then-i-lt10 c = rw (le-ltb _ 8 c.if-i-lt8.false, lt-ltb _ 10 c.if-i-lt10.true) c.has_bit-then-i-lt10.ensures

pub returns : goal.returns
returns c = rw (le-ltb _ 8 c.if-i-lt8.false, le-ltb _ 10 c.if-i-lt10.false) c.has_bit-2.ensures
