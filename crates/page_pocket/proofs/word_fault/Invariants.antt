-- The loop's invariant: the whole walk answers what the rest of it answers. Assumes nothing.
use mathlib.Core.Path.{◌≡◌}
use Prim.Native.Nat.{◌-◌}
use Rattle.page_pocket.specs.Pocket.{word_fault, fault_from}
use Rattle.page_pocket.proofs.word_fault.Given as goal

abbrev pub invariant-loop-word : goal.invariant-loop-word
invariant-loop-word l = word_fault l.page ≡ fault_from l.page l.word-index (11 - l.word-index)
