-- `four_tabbed` meets its contract: each way out settles the tests of the definition.
use Prim.Native.Nat.{◌+◌, ◌-◌}
use native.Mathlib.Omega.{arith}
use lib.ListN.{length, get_or}
use borrow.Author.Tests.{lt-ltb, le-ltb, eq-eqb, ne_eqb}
use Rattle.text_number_at.specs.Along.{four_tabbed}
use Rattle.text_number_at.proofs.four_tabbed.Goals as goal
use Rattle.text_number_at.proofs.four_tabbed.Goals.{else-from-saturating_sub-via-then-from-saturating_sub+else-bytes-from-eq9, else-from-saturating_sub-via-else-from-saturating_sub}

pub returns-then-bytes-from-eq9 : goal.returns-then-bytes-from-eq9
unfolding four_tabbed
returns-then-bytes-from-eq9 c = let a = c.args in
    rw (lt-ltb a.from (length a.bytes.now - 4) (omega arith), eq-eqb (get_or a.bytes.now (a.from + 4) 0) 9 c.if-bytes-from-eq9.true)
    c.four_at.ensures

pub returns : goal.returns
unfolding four_tabbed
returns c = let a = c.args in
    elim c.else-from-saturating_sub.branch [
      | else-from-saturating_sub-via-then-from-saturating_sub+else-bytes-from-eq9 w ↦ rw (lt-ltb a.from (length a.bytes.now - 4) (omega arith), ne_eqb (get_or a.bytes.now (a.from + 4) 0) 9 w.if-bytes-from-eq9.false)
      | else-from-saturating_sub-via-else-from-saturating_sub w ↦ rw (le-ltb a.from (length a.bytes.now - 4) (omega arith))
    ]
