-- The field at a place of a line as a number, with the place where it ends; and the quick way for a field of four digits, which most are.
use Rattle.std.specs.Prelude.{is_some, Option, Some, None, ℕ, suc, ◌+◌, ◌*◌, ◌-◌, ◌<◌, ◌≤◌, ◌≡◌, refl, Bool, true, ◌&&◌, ◌||◌, List, [], ◌∷◌, ◌++◌, leb, eqb, length, drop, get_or}
use Rattle.std.proofs.Common.{sym, ap, ◌∙◌, ⊎_elim, arith, lit≤, drop_of_length-le, drop-cons, le-ltb, leb-true, eqb-true, ne_eqb}
use Rattle.laws.specs.Tests.{by-order, clash, and-left, and-right, or-cases}
use Rattle.text_fields.specs.Finding.{before, lacks, before-at, before-none}
use Rattle.text_fields.specs.Fields.{field_at}
use Rattle.text_numbers.specs.Numbers.{digits_to, number_to, read_number}
use Rattle.text_fields.specs.Spelling.{decimal-lacks}
use Rattle.text_numbers.specs.Canonical.{number-text}
use Rattle.text_number_at.specs.Four.{Spelt, read_four, four-spelt}
use Rattle.text_number_at.specs.declared.FieldNumber.{FieldNumber}

-- a field that is a number v and ends at e
abbrev pub Found : ℕ → ℕ → Option FieldNumber
Found v e = Some (record { number = v; end = e })

-- what was read of a field, with the place where it ends
abbrev pub with_end : Option ℕ → ℕ → Option FieldNumber
with_end (Some v) e = Found v e
with_end None e = None

-- the field that starts at from, as a number, and where it ends
abbrev pub number_at : List ℕ → ℕ → Option FieldNumber
number_at line from = with_end (read_number (field_at line from)) (from + length (field_at line from))

-- what was read says so of the field
number_in : Option FieldNumber → ℕ
number_in (Some f) = f.number
number_in None = 0

end_in : Option FieldNumber → ℕ
end_in (Some f) = f.end
end_in None = 0

pub value-is : (n : Option ℕ) (x v e : ℕ) → with_end n x ≡ Found v e → (n ≡ Some v) × (e ≡ x)
unfolding number_in end_in
value-is (Some w) x v e q = (ap Some (ap number_in q), sym (ap end_in q))
value-is None x v e q = clash refl (sym (ap is_some q))

pub none-is : (n : Option ℕ) (x : ℕ) → with_end n x ≡ None → n ≡ None
none-is (Some w) x q = clash refl (ap is_some q)
none-is None x q = refl

module _ (line : List ℕ) (from : ℕ) where
  pub number-at-value : (v e : ℕ) → number_at line from ≡ Found v e
      → (read_number (field_at line from) ≡ Some v) × (e ≡ from + length (field_at line from))
  number-at-value v e q = value-is (read_number (field_at line from)) (from + length (field_at line from)) v e q

  pub number-at-none : number_at line from ≡ None → read_number (field_at line from) ≡ None
  number-at-none q = none-is (read_number (field_at line from)) (from + length (field_at line from)) q

-- ---- four digits

-- the four bytes from a place on
abbrev pub four_at : List ℕ → ℕ → List ℕ
four_at line from = get_or line from 0 ∷ get_or line (from + 1) 0 ∷ get_or line (from + 2) 0 ∷ get_or line (from + 3) 0 ∷ []

-- what the code says of them
abbrev pub read_four_at : List ℕ → ℕ → Option ℕ
read_four_at line from = read_four (get_or line from 0) (get_or line (from + 1) 0) (get_or line (from + 2) 0) (get_or line (from + 3) 0)

-- whether four bytes are left from a place on, and behind them the end or a tab
abbrev pub four_left : List ℕ → ℕ → Bool
four_left line from = leb (from + 4) (length line) && (leb (length line) (from + 4) || eqb (get_or line (from + 4) 0) 9)

-- one digit is read
digit-on : (b : ℕ) → 48 ≤ b → b ≤ 57 → (v : ℕ) (bs : List ℕ) → v * 10 + (b - 48) ≤ 65535
    → digits_to 65535 v (b ∷ bs) ≡ digits_to 65535 (v * 10 + (b - 48)) bs
unfolding digits_to
digit-on b low high v bs h = rw (le-ltb b 48 low, le-ltb 57 b high, le-ltb _ _ h)

-- four digits, the first of which is not 0
four-value : (a b c d v : ℕ) → Spelt a b c d v → read_number (a ∷ b ∷ c ∷ d ∷ []) ≡ Some v
unfolding number_to digits_to
four-value a b c d v s =
    let la = s.first.0 in let ha = s.first.1 in
    let lb = s.second.0 in let hb = s.second.1 in
    let lc = s.third.0 in let hc = s.third.1 in
    let ld = s.fourth.0 in let hd = s.fourth.1 in
    let is = s.is in
    let e : (((0 * 10 + (a - 48)) * 10 + (b - 48)) * 10 + (c - 48)) * 10 + (d - 48) ≡ v = omega arith in
    rw (ne_eqb a 48 (λ z. omega arith))
    (digit-on a (omega arith) ha 0 (b ∷ c ∷ d ∷ []) (omega arith)
    ∙ digit-on b lb hb (0 * 10 + (a - 48)) (c ∷ d ∷ []) (omega arith)
    ∙ digit-on c lc hc ((0 * 10 + (a - 48)) * 10 + (b - 48)) (d ∷ []) (omega arith)
    ∙ digit-on d ld hd (((0 * 10 + (a - 48)) * 10 + (b - 48)) * 10 + (c - 48)) [] (omega arith)
    ∙ ap Some e)

-- bytes that are said to spell a number are read as that number
pub four-read : (line : List ℕ) (from : ℕ) → ((i : ℕ) → get_or line i 0 < 256) → (v : ℕ) → read_four_at line from ≡ Some v
    → read_number (four_at line from) ≡ Some v
four-read line from h v e =
    four-value (get_or line from 0) (get_or line (from + 1) 0) (get_or line (from + 2) 0) (get_or line (from + 3) 0) v
    (four-spelt (get_or line from 0) (get_or line (from + 1) 0) (get_or line (from + 2) 0) (get_or line (from + 3) 0) v
    (h from) (h (from + 1)) (h (from + 2)) (h (from + 3)) e)

-- the text of a number has no tab
number-lacks : (f : List ℕ) (v : ℕ) → read_number f ≡ Some v → lacks 9 f ≡ true
number-lacks f v e = rw (number-text 65535 f v e).0 (decimal-lacks 9 (lit≤ tt) v)

drop-next : (x : List ℕ) (e f : ℕ) → f ≡ e + 1 → e < length x → drop e x ≡ get_or x e 0 ∷ drop f x
drop-next x e f q h = let k : suc e ≡ f = omega arith in drop-cons x e 0 h ∙ ap (λ (j : ℕ). get_or x e 0 ∷ drop j x) k

pub four-split : (line : List ℕ) (from : ℕ) → from + 4 ≤ length line → drop from line ≡ four_at line from ++ drop (from + 4) line
four-split line from h =
    drop-next line from (from + 1) refl (omega arith)
    ∙ ap (λ (l : List ℕ). get_or line from 0 ∷ l)
    (drop-next line (from + 1) (from + 2) (omega arith) (omega arith)
    ∙ ap (λ (l : List ℕ). get_or line (from + 1) 0 ∷ l)
    (drop-next line (from + 2) (from + 3) (omega arith) (omega arith)
    ∙ ap (λ (l : List ℕ). get_or line (from + 2) 0 ∷ l)
    (drop-next line (from + 3) (from + 4) (omega arith) (omega arith))))

module _ (line : List ℕ) (from : ℕ) (t : four_left line from ≡ true) where
  pub four-within : from + 4 ≤ length line
  four-within = leb-true (from + 4) (length line) (and-left (leb (from + 4) (length line)) _ t)

  -- a number of four digits up to the end or the tab is the field
  four-field : lacks 9 (four_at line from) ≡ true → field_at line from ≡ four_at line from
  four-field n =
      ap (before 9) (four-split line from four-within)
      ∙ by-order (from + 4) (length line)
      (λ h.
      let tab : get_or line (from + 4) 0 ≡ 9 =
      eqb-true _ _ (⊎_elim (λ q. absurd (let k = leb-true (length line) (from + 4) q in omega arith)) (λ q. q) (or-cases _ _ (and-right (leb (from + 4) (length line)) _ t))) in
      ap (λ (l : List ℕ). before 9 (four_at line from ++ l))
      (drop-next line (from + 4) (from + 5) (omega arith) h ∙ ap (λ (b : ℕ). b ∷ drop (from + 5) line) tab)
      ∙ before-at 9 (four_at line from) (drop (from + 5) line) n)
      (λ h. ap (λ (l : List ℕ). before 9 (four_at line from ++ l)) (drop_of_length-le line h) ∙ before-none 9 (four_at line from) n)

  -- the quick way gives what the field says
  pub four-quick : (v : ℕ) → read_number (four_at line from) ≡ Some v → Found v (from + 4) ≡ number_at line from
  four-quick v e = rw (four-field (number-lacks _ _ e)) (ap (λ (n : Option ℕ). with_end n (from + 4)) (sym e))
