-- `pack_why::reasons::from_taken` meets its contract. Assumes nothing.
use mathlib.Core.Path.{sym, ◌∙◌}
use Rattle.pack_why.specs.Steps.{taken-low, taken-high, taken-no}
use native.Mathlib.Omega.{arith}
use Rattle.pack_why.proofs.reasons.from_taken.Goals as goal
use Rattle.pack_why.proofs.reasons.from_taken.Goals.{then-k-gt1+else-has_bit, else-k-gt1}

pub returns-then-has_bit : goal.returns-then-has_bit
returns-then-has_bit c = taken-low _ _ c.if-k-gt1.true (sym c.has_bit.ensures ∙ c.if-has_bit.true)

pub returns-then-has_bit-2 : goal.returns-then-has_bit-2
returns-then-has_bit-2 c = let t = sym c.has_bit-2.ensures ∙ c.if-has_bit-2.true in
    elim c.if-k-gt1.branch [
      | then-k-gt1+else-has_bit w ↦ taken-high _ _ (λ h. sym w.has_bit.ensures ∙ w.if-has_bit.false) t
      | else-k-gt1 w ↦ taken-high _ _ (λ h. absurd (omega (arith, h, w.if-k-gt1.false))) t
    ]

pub returns : goal.returns
returns c = let t = sym c.has_bit-2.ensures ∙ c.if-has_bit-2.false in
    elim c.if-k-gt1.branch [
      | then-k-gt1+else-has_bit w ↦ taken-no _ _ (λ h. sym w.has_bit.ensures ∙ w.if-has_bit.false) t
      | else-k-gt1 w ↦ taken-no _ _ (λ h. absurd (omega (arith, h, w.if-k-gt1.false))) t
    ]
