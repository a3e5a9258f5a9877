-- `pack_why::reasons::from_rest` meets its contract. Assumes nothing.
use mathlib.Core.Path.{sym, ◌∙◌}
use Rattle.pack_why.specs.Steps.{rest-resting, rest-full, rest-on}
use Rattle.pack_why.proofs.reasons.from_rest.Goals as goal

pub returns-then-has_bit : goal.returns-then-has_bit
returns-then-has_bit c = rest-resting _ _ _ c.requires.first (sym c.has_bit.ensures ∙ c.if-has_bit.true)

pub returns-then-taken-rules : goal.returns-then-taken-rules
returns-then-taken-rules c = rest-on _ _ _ c.requires.first (sym c.has_bit.ensures ∙ c.if-has_bit.false) _ _ c.want_at-want.ensures c.taken_before-taken.ensures
    c.if-taken-rules.true _ c.from_taken.ensures

pub returns : goal.returns
returns c = rest-full _ _ _ c.requires.first (sym c.has_bit.ensures ∙ c.if-has_bit.false) _ _ c.want_at-want.ensures c.taken_before-taken.ensures
    c.if-taken-rules.false
