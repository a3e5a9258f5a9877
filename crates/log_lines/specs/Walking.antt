-- The lines of a log, found one after the other.
use Rattle.std.specs.Prelude.{None, ℕ, zero, suc, ◌+◌, ◌-◌, ◌<◌, ◌≤◌, ◌≡◌, refl, true, false, cond, List, [], ◌∷◌, ◌++◌, eqb, ltb, length, take, drop}
use Rattle.std.proofs.Math.Path.{sym}
use Rattle.std.proofs.Common.{ap, ◌∙◌, append-nil, length-drop, drop-drop}
use native.Mathlib.Omega.{arith}
use borrow.Author.Tests.{lt-ltb, le-ltb, ltb-true, ltb-false}
use Rattle.laws.specs.Tests.{by-test}
use Rattle.text_fields.specs.Finding.{before, lacks, lacks-head, before-front, before-lacks, before-splits, before-all}
use Rattle.text_fields.specs.Fields.{longer}
use Rattle.log_lines.specs.declared.NextLine.{NextLine}
use Rattle.log_lines.specs.Lines.{Ends, lines_of, plain, end_of, next_line}

-- ---- bytes without a newline in front of the rest

pub plain-take : (n : ℕ) (l : List ℕ) → plain l ≡ true → plain (take n l) ≡ true
unfolding lacks
plain-take zero l p = refl
plain-take (suc n) [] p = refl
plain-take (suc n) (b ∷ l) p = let q = lacks-head 10 b l p in rw q.0 (plain-take n l q.1)

pub not-plain : (l r : List ℕ) → plain (l ++ (10 ∷ r)) ≡ false
unfolding lacks
not-plain [] r = refl
not-plain (b ∷ l) r = by-test (eqb b 10) (λ t. rw t) (λ t. rw t (not-plain l r))

-- the bytes l in front of the first of the lines
abbrev pub onto : List ℕ → List (List ℕ) → List (List ℕ)
onto [] [] = []
onto (b ∷ l) [] = (b ∷ l) ∷ []
onto l (f ∷ fs) = (l ++ f) ∷ fs

longer-onto : (b : ℕ) (l : List ℕ) (ls : List (List ℕ)) → longer b (onto l ls) ≡ onto (b ∷ l) ls
longer-onto b [] [] = refl
longer-onto b (c ∷ l) [] = refl
longer-onto b [] (f ∷ fs) = refl
longer-onto b (c ∷ l) (f ∷ fs) = refl

none-onto : (ls : List (List ℕ)) → ls ≡ onto [] ls
none-onto [] = refl
none-onto (f ∷ fs) = refl

-- the law of lines, of which the others are instances
pub lines-onto : (l more : List ℕ) → plain l ≡ true → lines_of (l ++ more) ≡ onto l (lines_of more)
unfolding lines_of
lines-onto [] more p = none-onto (lines_of more)
lines-onto (b ∷ l) more p =
    let q = lacks-head 10 b l p in rw q.0 (ap (longer b) (lines-onto l more q.1) ∙ longer-onto b l (lines_of more))

-- a line that ends
pub lines-line : (l more : List ℕ) → plain l ≡ true → lines_of (l ++ (10 ∷ more)) ≡ l ∷ lines_of more
unfolding lines_of
lines-line l more p = lines-onto l (10 ∷ more) p ∙ ended l (lines_of more)
  where
    ended : (l : List ℕ) (ls : List (List ℕ)) → onto l ([] ∷ ls) ≡ l ∷ ls
    ended [] ls = refl
    ended (b ∷ l) ls = ap (λ (k : List ℕ). k ∷ ls) (append-nil (b ∷ l))

-- a line that does not end
pub lines-rest : (l : List ℕ) → plain l ≡ true → lines_of l ≡ onto l []
unfolding lines_of
lines-rest l p = ap lines_of (sym (append-nil l)) ∙ lines-onto l [] p

-- ---- the lines that end in these bytes

abbrev pub front : ℕ → List (List ℕ) → List (List ℕ)
front b [] = []
front b (l ∷ ls) = (b ∷ l) ∷ ls

unfoldable pub whole : List ℕ → List (List ℕ)
whole [] = []
whole (b ∷ bs) = cond (eqb b 10) ([] ∷ whole bs) (front b (whole bs))

pub whole-line : (l more : List ℕ) → plain l ≡ true → whole (l ++ (10 ∷ more)) ≡ l ∷ whole more
unfolding whole
whole-line [] more p = refl
whole-line (b ∷ l) more p = let q = lacks-head 10 b l p in rw q.0 (ap (front b) (whole-line l more q.1))

pub whole-none : (l : List ℕ) → plain l ≡ true → whole l ≡ []
unfolding whole
whole-none [] p = refl
whole-none (b ∷ l) p = let q = lacks-head 10 b l p in rw q.0 (ap (front b) (whole-none l q.1))

pub whole-left : (x : List ℕ) → end_of x < length x → whole x ≡ before 10 x ∷ whole (drop (suc (end_of x)) x)
whole-left x h = ap whole (before-splits 10 x h) ∙ whole-line (before 10 x) (drop (suc (end_of x)) x) (before-lacks 10 x)

-- ---- what an answer of next_line says

-- the newline of the line that starts at from stands at end
pub record Ended (text : List ℕ) (from end next : ℕ) : Type 0 where
  pub is : end ≡ from + end_of (drop from text)
  pub after : next ≡ end + 1
  pub start : from ≤ end
  pub inside : end < length text

no-ends : (end next : ℕ) → None ≡ Ends end next → ⊥
no-ends end next q = let z : ◌≡◌ {A = ℕ} 0 1 = cc in omega arith

module _ (text : List ℕ) (from : ℕ) where
  abbrev left : List ℕ
  left = drop from text

  left-length : length left ≡ length text - from
  left-length = length-drop from text

  no-newline : length left ≤ end_of left → plain left ≡ true
  no-newline h = ap plain (sym (before-all 10 left h)) ∙ before-lacks 10 left

  pub next-ends : (end next : ℕ) → next_line text from ≡ Ends end next → Ended text from end next
  unfolding next_line
  next-ends end next e =
      by-test (ltb (end_of left) (length left))
      (λ t.
      let h = ltb-true (end_of left) (length left) t in
      let k = left-length in
      let q : Ends (from + end_of left) (from + end_of left + 1) ≡ Ends end next = rw t at e in
      let r : ◌≡◌ {A = NextLine} (record { end = from + end_of left; next = from + end_of left + 1 }) (record { end = end; next = next }) = cc in
      let a : from + end_of left ≡ end = ap (λ (l : NextLine). l.end) r in
      let b : from + end_of left + 1 ≡ next = ap (λ (l : NextLine). l.next) r in
      record { is = sym a; after = omega arith; start = omega arith; inside = omega arith })
      (λ t. absurd (no-ends end next (rw t at e)))

  -- no newline is left
  pub next-unfinished : next_line text from ≡ None → plain left ≡ true
  unfolding next_line
  next-unfinished e =
      by-test (ltb (end_of left) (length left))
      (λ t. absurd (no-ends (from + end_of left) (from + end_of left + 1) (sym (rw t at e))))
      (λ t. no-newline (ltb-false (end_of left) (length left) t))

  -- the search for the newline came to e
  module _ (e : ℕ) (h : e ≡ from + end_of left) where
    pub next-found : e < length text → Ends e (e + 1) ≡ next_line text from
    unfolding next_line
    next-found l =
        let k = left-length in rw (lt-ltb (end_of left) (length left) (omega arith), h)

    pub next-not-found : length text ≤ e → None ≡ next_line text from
    unfolding next_line
    next-not-found l = let k = left-length in rw (le-ltb (end_of left) (length left) (omega arith))

  -- the part up to end is the next line, and the lines behind it are those from next on
  module _ (end next : ℕ) (e : Ended text from end next) where
    pub ended-line : take (end - from) left ≡ before 10 left
    ended-line =
        let n : end - from ≡ end_of left = omega (arith, e.is) in
        ap (λ (j : ℕ). take j left) n ∙ sym (before-front 10 left)

    pub ended-rest : drop next text ≡ drop (suc (end_of left)) left
    ended-rest =
        let n : next ≡ from + suc (end_of left) = omega (arith, e.is, e.after) in
        ap (λ (j : ℕ). drop j text) n ∙ sym (drop-drop (suc (end_of left)) from text)

    pub ended-splits : left ≡ take (end - from) left ++ (10 ∷ drop next text)
    ended-splits =
        before-splits 10 left (let k = left-length in omega (arith, e.is, e.inside))
        ∙ rw (ended-line, ended-rest)

    pub ended-plain : plain (take (end - from) left) ≡ true
    ended-plain = ap plain ended-line ∙ before-lacks 10 left
