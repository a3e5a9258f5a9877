-- `pack_why::asked::cell_of` meets its contract. Assumes nothing.
use Rattle.std.proofs.Common.{◌≡◌, ℕ, cond, ltb, min, arith}
use borrow.Author.Tests.{lt-ltb, le-ltb}
use Rattle.laws.specs.Tests.{by-order}
use Rattle.pack_why.specs.Asked.{cell_of}
use Rattle.pack_why.proofs.asked.cell_of.Goals as goal

capped : (v : ℕ) → min v 255 ≡ cond (ltb v 256) v 255
capped v = by-order v 256 (λ h. rw (lt-ltb v 256 h) (omega arith)) (λ h. rw (le-ltb v 256 h) (omega arith))

pub returns : goal.returns
unfolding cell_of
returns c = rw (← capped c.args.v, ← c.min.ensures)
