-- `pack_log::ends::begin` meets its contract. Assumes nothing.
use mathlib.Core.Path.{ap}
use Rattle.pack.specs.declared.Answered.{Answered}
use Rattle.pack_log.proofs.ends.begin.Goals as goal

pub returns : goal.returns
returns c = record {
  verdict_value = (ap (λ (x : Answered). x.verdict) c.load-verdict.ensures.value, ap (λ (x : Answered). x.pack) c.load-verdict.ensures.value);
  verdict_value_2 = c.load-verdict.ensures.verdict_value;
  opened = c.put_opening-written.ensures;
}
