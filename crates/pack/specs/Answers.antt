-- What the calls answer: a verdict, and the pack behind it.
-- Assumes nothing.
use Rattle.std.specs.Prelude.{cond, ℕ}
use Rattle.refusals.specs.Verdicts.{Verdict}
use Rattle.sample.specs.declared.Sample.{Sample}
use Rattle.pack_refusals.specs.Samples.{sample_verdict, command_verdict, trimmed}
use Rattle.pack_state.specs.declared.Pack.{Pack}
use Rattle.pack_state.specs.State.{accepted_pack}
use Rattle.pack.specs.declared.Answered.{Answered}
use Rattle.pack.specs.Events.{accepts}

abbrev pub answered : Verdict → Pack → Answered
answered v p = record { verdict = v; pack = p }

-- A sample that is offered: a refused one leaves the pack as it was.
unfoldable pub offered : Pack → Sample → Answered
offered p s =
    let v = sample_verdict p.rules.n s in
    answered v (cond (accepts v) (accepted_pack p (trimmed s)) p)

-- A switch command "acts at once and touches nothing else".
unfoldable pub with_command : Pack → ℕ → Pack
with_command p c =
    record {
      rules = p.rules;
      protections = p.protections;
      watch = p.watch;
      balance = p.balance;
      latest = p.latest;
      sampled = p.sampled;
      command = c;
      tick = p.tick;
    }

unfoldable pub commanded : Pack → ℕ → Answered
commanded p c =
    let v = command_verdict c in
    answered v (cond (accepts v) (with_command p c) p)
