-- The fields of a line that are left from a place on, one after the other.
-- Assumes nothing.
use Rattle.std.specs.Prelude.{ℕ, ◌+◌, ◌<◌, ◌≤◌, ◌≡◌, cond, List, [], ◌∷◌, leb, length, drop}
use Rattle.std.proofs.Common.{sym, ap, ◌∙◌, arith, le-leb}
use Rattle.std.proofs.lemmas.Bool.{lt-leb}
use Rattle.laws.specs.Tests.{by-order}
use Rattle.text_fields.specs.Fields.{fields_of, field_at}
use Rattle.text_fields.specs.Splitting.{fields-more, fields-last}

-- The fields from at on; none behind the line's end, where no tab stands in front of at.
unfoldable pub left : List ℕ → ℕ → List (List ℕ)
left line at = cond (leb at (length line)) (fields_of (drop at line)) []

pub left-some : (line : List ℕ) (at : ℕ) → at ≤ length line → left line at ≡ fields_of (drop at line)
unfolding left
left-some line at h = rw (le-leb at (length line) h)

pub left-none : (line : List ℕ) (at : ℕ) → length line < at → left line at ≡ []
unfolding left
left-none line at h = rw (lt-leb at (length line) h)

-- The field f at a place is the first of them, and the next starts behind its tab.
module _ (line : List ℕ) (at : ℕ) (f : List ℕ) (e : f ≡ field_at line at) (h : at ≤ length line) where
  pub left-next : left line at ≡ f ∷ left line (at + length f + 1)
  left-next =
      rw e
      (left-some line at h
      ∙ by-order (at + length (field_at line at)) (length line)
      (λ l.
      fields-more line at l
      ∙ ap (λ (fs : List (List ℕ)). field_at line at ∷ fs) (sym (left-some line (at + length (field_at line at) + 1) (omega arith))))
      (λ l.
      fields-last line at l
      ∙ ap (λ (fs : List (List ℕ)). field_at line at ∷ fs) (sym (left-none line (at + length (field_at line at) + 1) (omega arith)))))

  -- It is the only one where no tab stands behind it.
  pub left-only : length line ≤ at + length f → left line at ≡ f ∷ []
  left-only l = rw e (left-some line at h ∙ fields-last line at (rw e at l))
