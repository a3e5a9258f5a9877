-- `pack_why::asked::asked_of` meets its contract. Assumes nothing.
use Rattle.std.proofs.Common.{◌≡◌, ℕ, Bool, Some, None, List, [], ◌∷◌, ◌&&◌, eqb, refl, sym, ap, ◌∙◌}
use Rattle.std.specs.Cmp.Lexicographic.{pointwise}
use Rattle.pack_why.specs.Asked.{same_text, asked-charge, asked-discharge, asked-number}
use Rattle.pack_why.proofs.asked.asked_of.Goals as goal

-- The library's comparison of two texts.
same : (a b : List ℕ) → pointwise eqb a b ≡ same_text a b
unfolding same_text
same [] [] = refl
same [] (y ∷ b) = refl
same (x ∷ a) [] = refl
same (x ∷ a) (y ∷ b) = ap (λ r. eqb x y && r) (same a b)

-- What the code's comparison with a word says.
said : (what word text : List ℕ) (r answer : Bool) → r ≡ pointwise eqb what word → word ≡ text → r ≡ answer → same_text what text ≡ answer
said what word text r answer e w t = sym (same what text) ∙ ap (pointwise eqb what) (sym w) ∙ sym e ∙ t

pub returns-then-eq : goal.returns-then-eq
returns-then-eq c = asked-charge _ (said _ _ _ _ _ c.eq.ensures c.as_slice.ensures c.if-eq.true)

pub returns-then-eq-2 : goal.returns-then-eq-2
returns-then-eq-2 c =
    asked-discharge _ (said _ _ _ _ _ c.eq.ensures c.as_slice.ensures c.if-eq.false)
    (said _ _ _ _ _ c.eq-2.ensures c.as_slice-2.ensures c.if-eq-2.true)

pub returns-in_err-number : goal.returns-in_err-number
returns-in_err-number c =
    c.from_residual.ensures
    ∙ asked-number _ (said _ _ _ _ _ c.eq.ensures c.as_slice.ensures c.if-eq.false)
    (said _ _ _ _ _ c.eq-2.ensures c.as_slice-2.ensures c.if-eq-2.false) None c.in_err-number.ensures

pub returns : goal.returns
returns c =
    rw c.cell_of.ensures
    (asked-number _ (said _ _ _ _ _ c.eq.ensures c.as_slice.ensures c.if-eq.false)
    (said _ _ _ _ _ c.eq-2.ensures c.as_slice-2.ensures c.if-eq-2.false) (Some c.in_ok-number.number) c.in_ok-number.ensures)
