-- `sheet_read::read_lines` meets its contract
use Rattle.sheet_names.specs.Names.{layout_for, last-few}
use Rattle.sheet_read.specs.Steps.{value-fits, line-said, going-on, going-bad, going-extra, going-end}
use Rattle.sheet_read.specs.Parts.{lines-bad, lines-good}
use Rattle.std.proofs.Common.{ap, List, ℕ, get_or}
use mathlib.Core.Path.{◌≡◌}
use Prim.Native.Nat.{◌+◌}
use native.Mathlib.Omega.{arith}
use Rattle.sheet_read.proofs.read_lines.Goals as goal

pub returns-in_default-clause-bad : goal.returns-in_default-clause-bad
returns-in_default-clause-bad c = lines-bad _ _ c.has_long_mark-long.ensures _ (going-bad c.loop-i.invariant (omega arith) c.in_default.ensures)

pub word_bytes-requires : goal.word_bytes-requires
word_bytes-requires c = let l = layout_for c.has_long_mark-long.result in
    value-fits l c.loop-i.i _ _ (line-said l c.loop-i.i c.args.text.now c.loop-i.at _ c.in-Some.ensures).number

pub loop-i-preserved : goal.loop-i-preserved
loop-i-preserved c = let few = last-few c.has_long_mark-long.result in
    rw c.from-place.ensures (going-on c.loop-i.invariant _ (omega arith) (omega arith) _ _ _ c.in-Some.ensures
    (ap (λ (x : List ℕ). get_or x 0 0) c.word_bytes.ensures) (ap (λ (x : List ℕ). get_or x 1 0) c.word_bytes.ensures))

pub returns-then-at-text-clause-bad : goal.returns-then-at-text-clause-bad
returns-then-at-text-clause-bad c = lines-bad _ _ c.has_long_mark-long.ensures _
    (let e : c.loop-i.i ≡ c.last_line-lines.result + 1 = omega arith in rw (← e) (going-extra c.loop-i.invariant (omega arith) c.if-at-text.true))

pub returns-clause-page : goal.returns-clause-page
returns-clause-page c = lines-good _ _ c.has_long_mark-long.ensures _ _ (omega arith) (going-end c.loop-i.invariant (omega arith) (omega arith) (omega arith))
