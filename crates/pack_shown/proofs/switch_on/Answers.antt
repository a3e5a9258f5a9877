-- `pack_shown::switch_on` meets its contract. Assumes nothing.
use mathlib.Core.Path.{◌≡◌}
use Rattle.std.proofs.Common.{true}
use Rattle.laws.specs.Bits.{has_bit}
use Rattle.guard_watch.specs.Watch.{watch_of, blocked_word-has}
use Rattle.pack_shown.proofs.switch_on.Goals as goal
use Rattle.pack_shown.proofs.switch_on.Goals.{then-p, else-p}

pub returns-then-has_bit : goal.returns-then-has_bit
unfolding watch_of
returns-then-has_bit c =
    let given = c.requires in
    elim c.if-p.branch [
      | then-p w ↦
          let commanded : has_bit c.args.p.command c.args.switch ≡ true = cc in
          rw (w.if-p.true, commanded, c.has_bit-then-has_bit.ensures, given.0, blocked_word-has _ _ given.1)
      | else-p w ↦ cc
    ]
