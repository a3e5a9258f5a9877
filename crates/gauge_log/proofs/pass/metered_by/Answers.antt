-- `gauge_log::pass::metered_by` meets its contract. Assumes nothing.
use mathlib.Core.Path.{ap}
use Rattle.pack_gauge.specs.declared.calls.Gauged.{Gauged}
use Rattle.gauge_log.proofs.pass.metered_by.Goals as goal

pub returns-in-Offer : goal.returns-in-Offer
returns-in-Offer c = rw c.in-Offer.is (ap (λ (g : Gauged). g.metered) c.offer.ensures.value)

pub returns-in-Command : goal.returns-in-Command
returns-in-Command c = rw c.in-Command.is (ap (λ (g : Gauged). g.metered) c.command.ensures.value)

pub returns-in-Malformed : goal.returns-in-Malformed
returns-in-Malformed c = rw c.in-Malformed.is
