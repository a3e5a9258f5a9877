-- The paper's number and word for each verdict.
-- Assumes nothing.
use Rattle.std.specs.Prelude.{Ok, Err}
use Rattle.refusals.specs.Refusals.{Answer, answer}
use Rattle.refusals.specs.Verdicts.{Verdict}

-- 0 and 0 where nothing is refused.
abbrev pub answer_of : Verdict → Answer
answer_of (Ok done) = answer 0 0
answer_of (Err refusal) = answer refusal.number refusal.word
