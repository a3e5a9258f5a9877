-- `pack_why::reasons::why_switch` meets its contract. Assumes nothing.
use mathlib.Core.Path.{sym, ◌∙◌}
use Rattle.pack_why.specs.Steps.{switch-early, switch-not, switch-blocked, switch-on}
use Rattle.pack_why.proofs.reasons.why_switch.Goals as goal

pub returns-then-first-lt-PROTECTIONS : goal.returns-then-first-lt-PROTECTIONS
returns-then-first-lt-PROTECTIONS c = switch-blocked _ _ c.if-p.true _ c.bit_of-bit.ensures (sym c.has_bit.ensures ∙ c.if-has_bit.true) _ c.lowest_blocking-first.ensures c.if-first-lt-PROTECTIONS.true

pub returns-then-has_bit : goal.returns-then-has_bit
returns-then-has_bit c = switch-on _ _ c.if-p.true _ c.bit_of-bit.ensures (sym c.has_bit.ensures ∙ c.if-has_bit.true) _ c.lowest_blocking-first.ensures c.if-first-lt-PROTECTIONS.false

pub returns-then-p : goal.returns-then-p
returns-then-p c = switch-not _ _ c.if-p.true _ c.bit_of-bit.ensures (sym c.has_bit.ensures ∙ c.if-has_bit.false)

pub returns : goal.returns
returns c = switch-early _ _ c.if-p.false
