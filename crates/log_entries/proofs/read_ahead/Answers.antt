-- `log_entries::read_ahead` meets its contract: each way out settles how the line starts. Assumes nothing.
use mathlib.Core.Path.{sym, ◌∙◌}
use Prim.Native.Nat.{◌+◌}
use native.Mathlib.Omega.{arith}
use Rattle.log_entries.proofs.AheadLaws.{start-short, start-not, start-sample, sample-ahead}
use Rattle.log_entries.proofs.read_ahead.Goals as goal
use Rattle.log_entries.proofs.read_ahead.Goals.{then-n-from-via-then-n-from, then-n-from-via-else-n-from+then-n-from-lt2}

pub returns-then-n-from : goal.returns-then-n-from
returns-then-n-from c = let a = c.args in
    start-short a.bytes.now a.from
    (elim c.then-n-from.branch [ then-n-from-via-then-n-from w ↦ omega arith | then-n-from-via-else-n-from+then-n-from-lt2 w ↦ omega arith ])

pub returns-then-starts_sample : goal.returns-then-starts_sample
returns-then-starts_sample c = let a = c.args in
    rw c.past_minus-start.ensures.value at c.numbers_ahead.ensures
    ∙ sample-ahead a.bytes.now (a.from + 2)
    ∙ start-sample a.bytes.now a.from (omega arith) (sym c.starts_sample.ensures ∙ c.if-starts_sample.true)

pub returns : goal.returns
returns c = let a = c.args in
    start-not a.bytes.now a.from (omega arith) (sym c.starts_sample.ensures ∙ c.if-starts_sample.false)
