-- The field at a place of some bytes out of which no line was cut: it ends at a tab or a newline, whatever stands behind.
use Rattle.std.specs.Prelude.{is_some, Option, Some, None, ℕ, suc, ◌+◌, ◌-◌, ◌<◌, ◌≤◌, ◌≡◌, Bool, false, cond, ◌&&◌, ◌||◌, ◌⊎◌, ltb, eqb, length, take, get_or}
use Rattle.std.proofs.Math.Path.{refl, ap}
use Rattle.std.proofs.Common.{sym, ◌∙◌, inl, inr, add-one, arith, lit≤, drop_of_length-le, drop-cons}
use Rattle.std.proofs.Math.Bool.{true}
use mathlib.Core.List.{List, [], ◌∷◌, ◌++◌}
use Rattle.std.proofs.Math.Logic.{⊎_elim}
use Rattle.std.proofs.Math.ListN.{drop}
use borrow.Author.Tests.{le-ltb, lt-ltb, ltb-true, ltb-false, eqb-true}
use Rattle.laws.specs.Tests.{by-test, clash, and-left, and-right, or-cases}
use Rattle.text_fields.specs.Finding.{before, lacks, lacks-head, before-at, before-none}
use Rattle.text_numbers.specs.Numbers.{read_number}
use Rattle.text_fields.specs.Spelling.{decimal-lacks}
use Rattle.text_numbers.specs.Canonical.{number-text}
use Rattle.text_number_at.specs.declared.FieldNumber.{FieldNumber}
use Rattle.text_number_at.specs.NumberAt.{Found, with_end, value-is, none-is, four_at, four-split, read_four_at, four-read}

-- the field that starts at from: the bytes up to the next tab or newline
abbrev pub field_along : List ℕ → ℕ → List ℕ
field_along bytes from = before 9 (before 10 (drop from bytes))

-- where it ends
abbrev pub end_along : List ℕ → ℕ → ℕ
end_along bytes from = from + length (field_along bytes from)

-- as a number, and where it ends; where neither a tab nor a newline is left, it does not end, and there is none
abbrev pub number_along : List ℕ → ℕ → Option FieldNumber
number_along bytes from =
    cond (ltb (end_along bytes from) (length bytes)) (with_end (read_number (field_along bytes from)) (end_along bytes from)) None

-- whether a byte ends a field
abbrev pub ends_field : ℕ → Bool
ends_field b = eqb b 9 || eqb b 10

-- whether four bytes are left from a place on, and behind them one that ends a field
abbrev pub four_ended : List ℕ → ℕ → Bool
four_ended bytes from = ltb from (length bytes - 4) && ends_field (get_or bytes (from + 4) 0)

-- whether four bytes are left from a place on, and behind them a tab
abbrev pub four_before_tab : List ℕ → ℕ → Bool
four_before_tab bytes from = ltb from (length bytes - 4) && eqb (get_or bytes (from + 4) 0) 9

-- four bytes and a tab behind them, as the code reads them; where no tab stands there, nothing is read
unfoldable pub four_tabbed : List ℕ → ℕ → Option ℕ
four_tabbed bytes from = cond (four_before_tab bytes from) (read_four_at bytes from) None

-- ---- the search for the end

no-end : (b : ℕ) → ends_field b ≡ false → (eqb b 9 ≡ false) × (eqb b 10 ≡ false)
no-end b e = by-test (eqb b 9) (λ t. clash refl (rw t at e)) (λ t. (t, rw t at e))

module _ (x : List ℕ) (e : ℕ) where
  pub along-on : e < length x → ends_field (get_or x e 0) ≡ false → end_along x (e + 1) ≡ end_along x e
  unfolding before
  along-on h n = let q = no-end (get_or x e 0) n in rw (drop-cons x e 0 h, q.1, q.0, add-one) (omega arith)

  pub along-here : e < length x → ends_field (get_or x e 0) ≡ true → e ≡ end_along x e
  unfolding before
  along-here h n =
      ⊎_elim
      (λ t. rw (drop-cons x e 0 h, eqb-true (get_or x e 0) 9 t) (omega arith))
      (λ t. rw (drop-cons x e 0 h, eqb-true (get_or x e 0) 10 t) (omega arith))
      (or-cases _ _ n)

  pub along-past : length x ≤ e → e ≡ end_along x e
  unfolding before
  along-past h = rw (drop_of_length-le x h) (omega arith)

front : (y : List ℕ) → before 9 (before 10 y) ≡ take (length (before 9 (before 10 y))) y
unfolding before
front [] = refl
front (b ∷ y) =
    by-test (eqb b 10) (λ t. rw t)
    (λ t. rw t (by-test (eqb b 9) (λ u. rw u) (λ u. rw u (ap (λ (l : List ℕ). b ∷ l) (front y)))))

module _ (bytes : List ℕ) (from e : ℕ) (h : e ≡ end_along bytes from) where
  -- the part up to the end that was found
  pub along-part : take (e - from) (drop from bytes) ≡ field_along bytes from
  along-part =
      let n : e - from ≡ length (field_along bytes from) = omega arith in
      ap (λ (j : ℕ). take j (drop from bytes)) n ∙ sym (front (drop from bytes))

  -- nothing ends the field
  pub along-open : length bytes ≤ e → None ≡ number_along bytes from
  along-open l = rw (le-ltb (end_along bytes from) (length bytes) (omega arith))

  -- the field was read as n
  pub along-read : e < length bytes → (n : Option ℕ) → n ≡ read_number (field_along bytes from) → with_end n e ≡ number_along bytes from
  along-read l n q = rw (lt-ltb (end_along bytes from) (length bytes) (omega arith), h, ← q)

-- what was read says so of the field
module _ (bytes : List ℕ) (from : ℕ) where
  pub along-value : (v e : ℕ) → number_along bytes from ≡ Found v e
      → (read_number (field_along bytes from) ≡ Some v) × (e ≡ end_along bytes from) × (e < length bytes)
  along-value v e q =
      by-test (ltb (end_along bytes from) (length bytes))
      (λ t.
      let l = ltb-true (end_along bytes from) (length bytes) t in
      let r = value-is (read_number (field_along bytes from)) (end_along bytes from) v e (rw t at q) in
      (r.0, r.1, omega (arith, l, r.1)))
      (λ t. absurd (no-value v e (rw t at q)))
    where
      no-value : (v e : ℕ) → None ≡ Found v e → ⊥
      no-value v e q = let z : ◌≡◌ {A = ℕ} 0 1 = cc in omega arith

  pub along-none : number_along bytes from ≡ None → (read_number (field_along bytes from) ≡ None) ⊎ (length bytes ≤ end_along bytes from)
  along-none q =
      by-test (ltb (end_along bytes from) (length bytes))
      (λ t. inl (none-is (read_number (field_along bytes from)) (end_along bytes from) (rw t at q)))
      (λ t. inr (ltb-false (end_along bytes from) (length bytes) t))

-- ---- four digits

over : (w : ℕ) (x rest : List ℕ) → lacks w x ≡ true → before w (x ++ rest) ≡ x ++ before w rest
unfolding before
over w [] rest p = refl
over w (b ∷ x) rest p = let q = lacks-head w b x p in rw q.0 (ap (λ (l : List ℕ). b ∷ l) (over w x rest q.1))

module _ (bytes : List ℕ) (from : ℕ) (t : four_ended bytes from ≡ true) where
  pub ended-within : from + 4 < length bytes
  ended-within = let k = ltb-true from (length bytes - 4) (and-left _ _ t) in omega arith

  -- a number of four digits up to the tab or the newline is the field
  ended-field : (v : ℕ) → read_number (four_at bytes from) ≡ Some v → field_along bytes from ≡ four_at bytes from
  unfolding before
  ended-field v e =
      let s = (number-text 65535 (four_at bytes from) v e).0 in
      let no-tab : lacks 9 (four_at bytes from) ≡ true = ap (lacks 9) s ∙ decimal-lacks 9 (lit≤ tt) v in
      let no-newline : lacks 10 (four_at bytes from) ≡ true = ap (lacks 10) s ∙ decimal-lacks 10 (lit≤ tt) v in
      let h = ended-within in
      let cut : drop from bytes ≡ four_at bytes from ++ (get_or bytes (from + 4) 0 ∷ drop (suc (from + 4)) bytes) =
      four-split bytes from (omega arith) ∙ ap (λ (l : List ℕ). four_at bytes from ++ l) (drop-cons bytes (from + 4) 0 h) in
      ap (λ (l : List ℕ). before 9 (before 10 l)) cut
      ∙ ap (before 9) (over 10 (four_at bytes from) (get_or bytes (from + 4) 0 ∷ drop (suc (from + 4)) bytes) no-newline)
      ∙ ⊎_elim
      (λ q. ap (λ (b : ℕ). before 9 (four_at bytes from ++ before 10 (b ∷ drop (suc (from + 4)) bytes))) (eqb-true (get_or bytes (from + 4) 0) 9 q)
      ∙ before-at 9 (four_at bytes from) (before 10 (drop (suc (from + 4)) bytes)) no-tab)
      (λ q. ap (λ (b : ℕ). before 9 (four_at bytes from ++ before 10 (b ∷ drop (suc (from + 4)) bytes))) (eqb-true (get_or bytes (from + 4) 0) 10 q)
      ∙ before-none 9 (four_at bytes from) no-tab)
      (or-cases (eqb (get_or bytes (from + 4) 0) 9) (eqb (get_or bytes (from + 4) 0) 10) (and-right (ltb from (length bytes - 4)) _ t))

  -- the quick way gives what the field says
  pub along-quick : (v : ℕ) → read_number (four_at bytes from) ≡ Some v → Found v (from + 4) ≡ number_along bytes from
  along-quick v e =
      let f = ended-field v e in
      let h = ended-within in
      rw (f, lt-ltb (from + 4) (length bytes) h, e)

-- what was read before a tab is the field that starts there
module _ (bytes : List ℕ) (from : ℕ) where
  tabbed-is : (v : ℕ) → four_tabbed bytes from ≡ Some v → (four_before_tab bytes from ≡ true) × (read_four_at bytes from ≡ Some v)
  unfolding four_tabbed
  tabbed-is v s = by-test (four_before_tab bytes from) (λ t. (t, rw t at s)) (λ t. clash refl (sym (ap is_some (rw t at s))))

  before-tab : four_before_tab bytes from ≡ true → (four_ended bytes from ≡ true) × (get_or bytes (from + 4) 0 ≡ 9)
  before-tab t =
      let l = and-left (ltb from (length bytes - 4)) (eqb (get_or bytes (from + 4) 0) 9) t in
      let e = and-right (ltb from (length bytes - 4)) (eqb (get_or bytes (from + 4) 0) 9) t in
      (rw (l, e), eqb-true (get_or bytes (from + 4) 0) 9 e)

  module _ (v : ℕ) (e : four_tabbed bytes from ≡ Some v) where
    tabbed : (four_before_tab bytes from ≡ true) × (read_four_at bytes from ≡ Some v)
    tabbed = tabbed-is v e

    pub tabbed-tab : get_or bytes (from + 4) 0 ≡ 9
    tabbed-tab = (before-tab tabbed.0).1

    pub tabbed-within : from + 5 ≤ length bytes
    tabbed-within = let l = ended-within bytes from (before-tab tabbed.0).0 in omega arith

    pub tabbed-along : ((i : ℕ) → get_or bytes i 0 < 256) → number_along bytes from ≡ Found v (from + 4)
    tabbed-along h = sym (along-quick bytes from (before-tab tabbed.0).0 v (four-read bytes from h v tabbed.1))
