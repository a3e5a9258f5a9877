-- `gauge_log::ends::begin` meets its contract. Assumes nothing.
use mathlib.Core.Path.{ap}
use Rattle.pack_gauge.specs.declared.calls.Gauged.{Gauged}
use Rattle.gauge_log.proofs.ends.begin.Goals as goal

pub returns : goal.returns
returns c = record {
  verdict_value = (ap (λ (g : Gauged). g.verdict) c.load-verdict.ensures.value, ap (λ (g : Gauged). g.metered) c.load-verdict.ensures.value);
  put = c.put_refusal-written.ensures.put;
  written_in_bounds = c.put_refusal-written.ensures.upper_bound;
}
