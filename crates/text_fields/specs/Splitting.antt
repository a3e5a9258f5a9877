-- The field that starts at a place is the first of the fields that are left there.
use Rattle.std.specs.Prelude.{ℕ, suc, ◌+◌, ◌-◌, ◌<◌, ◌≤◌, ◌≡◌, refl, List, [], ◌∷◌, eqb, take, drop}
use Rattle.std.proofs.Common.{sym, ap, ◌∙◌, not-suc-le-zero, le_of_suc-le-suc, length-drop, drop-drop}
use native.Mathlib.Omega.{arith}
use Rattle.std.proofs.Math.ListN.{length, drop_of_length-le}
use Rattle.laws.specs.Tests.{by-test}
use Rattle.text_fields.specs.Finding.{before, before-length, before-front}
use Rattle.text_fields.specs.Fields.{longer, fields_of, field_at}

fields-first : (x : List ℕ) → length (before 9 x) < length x
    → fields_of x ≡ before 9 x ∷ fields_of (drop (suc (length (before 9 x))) x)
unfolding before fields_of
fields-first [] h = absurd (not-suc-le-zero h)
fields-first (b ∷ bs) h =
    by-test (eqb b 9) (λ t. rw t) (λ t. rw t (ap (longer b) (fields-first bs (le_of_suc-le-suc (rw t at h)))))

fields-only : (x : List ℕ) → length x ≤ length (before 9 x) → fields_of x ≡ before 9 x ∷ []
unfolding before fields_of
fields-only [] h = refl
fields-only (b ∷ bs) h =
    by-test (eqb b 9)
    (λ t. absurd (not-suc-le-zero (rw t at h)))
    (λ t. rw t (ap (longer b) (fields-only bs (le_of_suc-le-suc (rw t at h)))))

module _ (line : List ℕ) (from : ℕ) where
  pub field-length : length (field_at line from) ≤ length line - from
  field-length = let k = before-length 9 (drop from line) in let l = length-drop from line in omega arith

  pub field-within : from ≤ length line → from + length (field_at line from) ≤ length line
  field-within h = let k = field-length in omega arith

  -- a tab stands behind the field: the next one starts one place on
  pub fields-more : from + length (field_at line from) < length line
      → fields_of (drop from line) ≡ field_at line from ∷ fields_of (drop (from + length (field_at line from) + 1) line)
  fields-more h =
      let n : ℕ = length (field_at line from) in
      let l : length (drop from line) ≡ length line - from = length-drop from line in
      let there : from + suc n ≡ from + n + 1 = omega arith in
      fields-first (drop from line) (omega arith)
      ∙ ap (λ (z : List ℕ). field_at line from ∷ fields_of z) (drop-drop (suc n) from line ∙ ap (λ (j : ℕ). drop j line) there)

  -- no tab is left
  pub fields-last : length line ≤ from + length (field_at line from) → fields_of (drop from line) ≡ field_at line from ∷ []
  fields-last h =
      let l : length (drop from line) ≡ length line - from = length-drop from line in
      fields-only (drop from line) (omega arith)

  -- the part that the finder hands back
  pub field-part : (e : ℕ) → e ≡ from + length (field_at line from) → take (e - from) (drop from line) ≡ field_at line from
  field-part e h =
      let n : e - from ≡ length (field_at line from) = omega arith in
      ap (λ (j : ℕ). take j (drop from line)) n ∙ sym (before-front 9 (drop from line))

  -- past the end it is the empty part at the end
  pub field-past : length line < from
      → (take (length line - length line) (drop (length line) line) ≡ field_at line from)
      × (length (take (length line - length line) (drop (length line) line)) ≤ length line - from)
  unfolding before
  field-past h =
      let n : length line - length line ≡ 0 = omega arith in
      let k : length line ≤ from = omega arith in
      (rw (n, drop_of_length-le line k), rw n (omega arith))
