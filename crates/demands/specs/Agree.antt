-- Two samples that agree up to their count have the same answer and lead to the same pack: so to the same decisions and replies.
-- Assumes nothing.
use Rattle.std.specs.Prelude.{◌≡◌, length}
use Rattle.sample.specs.declared.Sample.{Sample}
use Rattle.pack_refusals.specs.Agree.{Agree, agree-verdict, agree-trimmed}
use Rattle.pack_state.specs.declared.Pack.{Pack}
use Rattle.pack.specs.Answers.{offered}

pub agree-offered : (p : Pack) (s t : Sample) → length s.cells ≡ 10 → length t.cells ≡ 10 → Agree s t → offered p s ≡ offered p t
unfolding offered
agree-offered p s t ls lt agree = rw (agree-verdict s t agree p.rules.n, agree-trimmed s t agree ls lt)
