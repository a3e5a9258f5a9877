-- `four` meets its contract: each way out settles the test of the definition.
use mathlib.Core.Path.{sym, ap, ◌∙◌}
use Prim.Native.Nat.{ℕ}
use lib.Bits.{bit_xor}
use borrow.Author.Rules.{rules}
use Rattle.text_number_at.specs.Four.{nine-most}
use Rattle.text_number_at.proofs.four.Goals as goal

pub valued-requires : goal.valued-requires
valued-requires c = let s = c.args in
    nine-most s.a s.b s.c s.d _ (search rules) (search rules) (search rules) (search rules)
    (ap (λ (y : ℕ). bit_xor y 0x30303030) c.together-x.ensures) (sym c.spells_four.ensures ∙ c.if-spells_four.true)
