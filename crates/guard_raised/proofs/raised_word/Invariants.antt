-- `guard_raised::raised_word` meets its contract: the word has the bits below i. Assumes nothing.
use Rattle.std.proofs.Common.{◌≡◌}
use Rattle.laws.specs.Words.{bits_of}
use Rattle.guard_raised.specs.Words.{raised_at}
use Rattle.guard_raised.proofs.raised_word.Given as goal

abbrev pub invariant-loop-i : goal.invariant-loop-i
invariant-loop-i l = l.w ≡ bits_of (raised_at l.fn.ps) l.i
