-- A field is read as a number exactly if it is the decimal text of that number and the number is in range.
use Rattle.std.specs.Prelude.{ℕ, zero, suc, ◌+◌, ◌*◌, ◌-◌, ◌/◌, ◌%◌, ◌<◌, ◌≤◌, refl, Bool, true, false, cond, ltb, eqb, ℤ, pos, negsuc, length, get_or, Option, Some, None}
use Rattle.std.proofs.Math.Path.{◌≡◌, sym, ap}
use Rattle.std.proofs.Common.{◌∙◌}
use mathlib.Core.List.{List, [], ◌∷◌, ◌++◌, append-nil}
use native.Mathlib.Omega.{arith}
use Rattle.std.proofs.Math.Arith.{digits_div, digits_mod}
use Rattle.std.proofs.Math.Seq.{append_snoc}
use Rattle.std.specs.Int.Signed.{le_z}
use borrow.Author.Tests.{le-ltb, ltb-false, eqb-true, eqb-false, ne_eqb, le-leb, leb-true}
use Rattle.laws.specs.Tests.{by-test, by-order}
use Rattle.text_fields.specs.Decimal.{decimal}
use Rattle.text_numbers.specs.Numbers.{negative, digits_to, number_to, read_number, above_of, below_of, read_signed, signed_text}
use Rattle.text_fields.specs.Spelling.{decimal-digit, decimal-tens, by-digits, decimal-some, decimal-first, decimal-lead, length-tens}

-- a test that would refuse, where a number is answered: it was false
passed : (t : Bool) (x : Option ℕ) (w : ℕ) → cond t None x ≡ Some w → (t ≡ false) × (x ≡ Some w)
passed true x w q = absurd (let z : ◌≡◌ {A = ℕ} 0 1 = cc in omega arith)
passed false x w q = (refl, q)

-- what one digit says
record Step (most v b : ℕ) (bs : List ℕ) (w : ℕ) : Type 0 where
  pub low : 48 ≤ b
  pub high : b ≤ 57
  pub fits : v * 10 + (b - 48) ≤ most
  pub rest : digits_to most (v * 10 + (b - 48)) bs ≡ Some w

-- which case of number_to holds, by the length and the first byte
pub number-empty : (most : ℕ) (f : List ℕ) → length f ≡ 0 → number_to most f ≡ None
unfolding number_to
number-empty most [] e = refl
number-empty most (b ∷ bs) e = absurd (omega arith)

pub number-single : (most : ℕ) (f : List ℕ) → length f ≡ 1 → number_to most f ≡ digits_to most 0 f
unfolding number_to
number-single most [] e = absurd (omega arith)
number-single most (b ∷ []) e = refl
number-single most (b ∷ c ∷ bs) e = absurd (omega arith)

pub number-zero : (most : ℕ) (f : List ℕ) → 1 < length f → get_or f 0 0 ≡ 48 → number_to most f ≡ None
unfolding number_to
number-zero most [] h e = absurd (omega arith)
number-zero most (b ∷ []) h e = absurd (omega arith)
number-zero most (b ∷ c ∷ bs) h e = rw e

pub number-other : (most : ℕ) (f : List ℕ) → 1 < length f → (get_or f 0 0 ≡ 48 → ⊥) → number_to most f ≡ digits_to most 0 f
unfolding number_to
number-other most [] h e = absurd (omega arith)
number-other most (b ∷ []) h e = absurd (omega arith)
number-other most (b ∷ c ∷ bs) h e = rw (ne_eqb b 48 e)

module _ (most : ℕ) where
  step : (v b : ℕ) (bs : List ℕ) (w : ℕ) → digits_to most v (b ∷ bs) ≡ Some w → Step most v b bs w
  unfolding digits_to
  step v b bs w q =
      let p1 = passed (ltb b 48) _ w q in
      let p2 = passed (ltb 57 b) _ w p1.1 in
      let p3 = passed (ltb most (v * 10 + (b - 48))) _ w p2.1 in
      record { low = ltb-false _ _ p1.0; high = ltb-false _ _ p2.0; fits = ltb-false _ _ p3.0; rest = p3.1 }

  ended : (v w : ℕ) → digits_to most v [] ≡ Some w → v ≡ w
  unfolding digits_to
  ended v w q = cc

  -- one digit more at the end of the text of v
  one-more : (v b : ℕ) → 1 ≤ v → 48 ≤ b → b ≤ 57 → decimal (v * 10 + (b - 48)) ≡ decimal v ++ (b ∷ [])
  one-more v b h l u =
      let r : b - 48 < 10 = omega arith in
      let e : 48 + (b - 48) ≡ b = omega arith in
      decimal-tens (v * 10 + (b - 48)) (omega arith) ∙ rw (digits_div v r, digits_mod v r, e)

  -- digits behind a number that is not 0 are the rest of the text
  grown : (bs : List ℕ) (v w : ℕ) → 1 ≤ v → digits_to most v bs ≡ Some w → decimal v ++ bs ≡ decimal w
  grown [] v w h q = append-nil (decimal v) ∙ ap decimal (ended v w q)
  grown (b ∷ bs) v w h q =
      let s = step v b bs w q in
      sym (append_snoc (decimal v) b bs) ∙ ap (λ (l : List ℕ). l ++ bs) (sym (one-more v b h s.low s.high))
      ∙ grown bs (v * 10 + (b - 48)) w (omega arith) s.rest

  in-range : (bs : List ℕ) (v w : ℕ) → v ≤ most → digits_to most v bs ≡ Some w → w ≤ most
  in-range [] v w h q = let e = ended v w q in omega arith
  in-range (b ∷ bs) v w h q = let s = step v b bs w q in in-range bs (v * 10 + (b - 48)) w s.fits s.rest

  -- a field that is read as w is the text of w, and w is in range
  pub number-text : (f : List ℕ) (w : ℕ) → number_to most f ≡ Some w → (f ≡ decimal w) × (w ≤ most)
  unfolding number_to
  number-text [] w q = absurd (let z : ◌≡◌ {A = ℕ} 0 1 = cc in omega arith)
  number-text (b ∷ []) w q =
      let s = step 0 b [] w q in
      let e = ended _ w s.rest in
      let h : 48 + w ≡ b = omega arith in
      (ap (λ (a : ℕ). a ∷ []) (sym h) ∙ sym (decimal-digit w (omega arith)), in-range [] _ w s.fits s.rest)
  number-text (b ∷ c ∷ bs) w q =
      let p = passed (eqb b 48) _ w q in
      let n = eqb-false b 48 p.0 in
      let s = step 0 b (c ∷ bs) w p.1 in
      let h : 48 + (0 * 10 + (b - 48)) ≡ b = omega arith in (
        ap (λ (a : ℕ). a ∷ c ∷ bs) (sym h)
            ∙ ap (λ (l : List ℕ). l ++ (c ∷ bs)) (sym (decimal-digit (0 * 10 + (b - 48)) (omega arith)))
            ∙ grown (c ∷ bs) (0 * 10 + (b - 48)) w (omega arith) s.rest,
        in-range (c ∷ bs) _ w s.fits s.rest,
      )

  -- one digit more behind digits that are read as u
  snoc : (f : List ℕ) (v u b : ℕ) → digits_to most v f ≡ Some u → 48 ≤ b → b ≤ 57 → u * 10 + (b - 48) ≤ most
      → digits_to most v (f ++ (b ∷ [])) ≡ Some (u * 10 + (b - 48))
  unfolding digits_to
  snoc [] v u b q l h t =
      let e : v ≡ u = cc in
      rw (e, le-ltb b 48 l, le-ltb 57 b h, le-ltb most (u * 10 + (b - 48)) t)
  snoc (a ∷ f) v u b q l h t =
      let s = step v a f u q in
      rw (le-ltb a 48 s.low, le-ltb 57 a s.high, le-ltb most (v * 10 + (a - 48)) s.fits)
      (snoc f (v * 10 + (a - 48)) u b s.rest l h t)

  all-read : (v : ℕ) → v ≤ most → digits_to most 0 (decimal v) ≡ Some v
  unfolding digits_to
  all-read =
      by-digits (λ v. v ≤ most → digits_to most 0 (decimal v) ≡ Some v)
      (λ v h m.
      let e : 0 * 10 + (48 + v - 48) ≡ v = omega arith in
      rw (decimal-digit v h, le-ltb (48 + v) 48 (omega arith), le-ltb 57 (48 + v) (omega arith), e, le-ltb most v m))
      (λ v h ih m.
      let e : v / 10 * 10 + (48 + v % 10 - 48) ≡ v = omega arith in
      rw (decimal-tens v h)
      (snoc (decimal (v / 10)) 0 (v / 10) (48 + v % 10) (ih (omega arith)) (omega arith) (omega arith) (omega arith) ∙ ap Some e))

  -- the text of a number in range is read as that number
  pub number-read : (v : ℕ) → v ≤ most → number_to most (decimal v) ≡ Some v
  number-read v m =
      by-order v 10
      (λ h. number-single most (decimal v) (ap length (decimal-digit v h)) ∙ all-read v m)
      (λ h.
      number-other most (decimal v) (omega (arith, length-tens v h, decimal-some (v / 10))) (decimal-lead v (omega arith))
      ∙ all-read v m)

  -- and no other field is a number
  pub number-malformed : (f : List ℕ) → ((v : ℕ) → v ≤ most → f ≡ decimal v → ⊥) → number_to most f ≡ None
  number-malformed f h = none (number_to most f) refl
    where
      none : (n : Option ℕ) → n ≡ number_to most f → n ≡ None
      none None e = refl
      none (Some v) e = let t = number-text f v (sym e) in absurd (h v t.1 t.0)

-- a field is read as v exactly if it is the text of v and v is 0..65535
pub number-exactly : (f : List ℕ) (v : ℕ) → (read_number f ≡ Some v → (f ≡ decimal v) × (v ≤ 65535))
    × ((f ≡ decimal v) × (v ≤ 65535) → read_number f ≡ Some v)
number-exactly f v = (number-text 65535 f v, λ p. ap read_number p.0 ∙ number-read 65535 v p.1)

-- two numbers with one text are one
pub decimal-one : (v w : ℕ) → decimal v ≡ decimal w → v ≡ w
decimal-one v w e =
    let p : Some v ≡ Some w =
    sym (number-read (v + w) v (omega arith)) ∙ ap (number_to (v + w)) e ∙ number-read (v + w) w (omega arith) in
    cc

-- ---- with a minus

-- -32768..32767
abbrev pub InRange : ℤ → Type 0
InRange z = (le_z (negsuc 32767) z ≡ true) × (le_z z (pos 32767) ≡ true)

above-text : (f : List ℕ) (n : Option ℕ) (z : ℤ) → n ≡ number_to 32767 f → above_of n ≡ Some z → (f ≡ signed_text z) × InRange z
unfolding signed_text
above-text f None z e q = absurd (let k : ◌≡◌ {A = ℕ} 0 1 = cc in omega arith)
above-text f (Some v) z e q =
    let t = number-text 32767 f v (sym e) in
    let s : pos v ≡ z = cc in
    rw (← s) (t.0, (refl, le-leb v 32767 t.1))

unsigned : (f : List ℕ) → 0 < length f → 48 ≤ get_or f 0 0 → read_signed f ≡ above_of (number_to 32767 f)
unfolding read_signed
unsigned [] h l = absurd (omega arith)
unsigned (b ∷ bs) h l = rw (ne_eqb b 45 (λ e. omega arith))

-- what is asked of minus v
abbrev Minus : Type 0
Minus = (v : ℕ) → negative (suc v) ≡ negsuc v

below-text-by : Minus → (bs : List ℕ) (n : Option ℕ) (z : ℤ) → n ≡ number_to 32768 bs → below_of n ≡ Some z → (45 ∷ bs ≡ signed_text z) × InRange z
unfolding signed_text
below-text-by m bs None z e q = absurd (let k : ◌≡◌ {A = ℕ} 0 1 = cc in omega arith)
below-text-by m bs (Some zero) z e q = absurd (let k : ◌≡◌ {A = ℕ} 0 1 = cc in omega arith)
below-text-by m bs (Some (suc v)) z e q =
    let t = number-text 32768 bs (suc v) (sym e) in
    let p : Some (negative (suc v)) ≡ Some z = q in
    let n : negative (suc v) ≡ negsuc v = m v in
    let s : negsuc v ≡ z = cc in
    rw (← s) (ap (λ (l : List ℕ). 45 ∷ l) t.0, (le-leb v 32767 (omega (arith, t.1)), refl))

below-text : (bs : List ℕ) (n : Option ℕ) (z : ℤ) → n ≡ number_to 32768 bs → below_of n ≡ Some z → (45 ∷ bs ≡ signed_text z) × InRange z
below-text = below-text-by (λ v. refl)

text-of : Minus → (f : List ℕ) (z : ℤ) → read_signed f ≡ Some z → (f ≡ signed_text z) × InRange z
unfolding read_signed
text-of m [] z q = absurd (let k : ◌≡◌ {A = ℕ} 0 1 = cc in omega arith)
text-of m (b ∷ bs) z q =
    by-test (eqb b 45)
    (λ t.
    let r = below-text-by m bs (number_to 32768 bs) z refl (rw t at q) in
    (ap (λ (a : ℕ). a ∷ bs) (eqb-true b 45 t) ∙ r.0, r.1))
    (λ t. above-text (b ∷ bs) (number_to 32767 (b ∷ bs)) z refl (rw t at q))

read-of : Minus → (z : ℤ) → InRange z → read_signed (signed_text z) ≡ Some z
unfolding read_signed signed_text
read-of m (pos v) r =
    unsigned (decimal v) (decimal-some v) (decimal-first v) ∙ ap above_of (number-read 32767 v (leb-true v 32767 r.1))
read-of m (negsuc v) r =
    ap below_of (number-read 32768 (suc v) (let k = leb-true v 32767 r.0 in omega arith)) ∙ ap Some (m v)

-- a field that is read as z is the text of z, and z is in range
pub signed-text : (f : List ℕ) (z : ℤ) → read_signed f ≡ Some z → (f ≡ signed_text z) × InRange z
signed-text = text-of (λ v. refl)

-- the text of a number in range is read as that number
pub signed-read : (z : ℤ) → InRange z → read_signed (signed_text z) ≡ Some z
signed-read = read-of (λ v. refl)

-- a field is read as z exactly if it is the text of z and z is -32768..32767
pub signed-exactly : (f : List ℕ) (z : ℤ) → (read_signed f ≡ Some z → (f ≡ signed_text z) × InRange z)
    × ((f ≡ signed_text z) × InRange z → read_signed f ≡ Some z)
signed-exactly f z = (text-of (λ v. refl) f z, λ p. ap read_signed p.0 ∙ read-of (λ v. refl) z p.1)
