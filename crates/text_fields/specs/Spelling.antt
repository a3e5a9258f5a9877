-- The decimal text of a number, digit by digit.
use Rattle.std.specs.Prelude.{ℕ, zero, suc, ◌+◌, ◌/◌, ◌%◌, ◌^◌, ◌<◌, ◌≤◌, ◌≡◌, true, List, [], ◌∷◌, ◌++◌, ltb, length, get_or}
use Rattle.std.proofs.Common.{sym, ap, ◌∙◌, not-suc-le-zero, pow-suc, arith, length-append, lt-ltb, le-ltb, ltb-false, ne_eqb}
use Rattle.std.proofs.Math.ListN.{get_or-append}
use Rattle.laws.specs.Tests.{by-test, by-order}
use Rattle.text_fields.specs.Decimal.{spell, decimal}
use Rattle.text_fields.specs.Finding.{lacks, lacks-head}

spell-same : (k j v : ℕ) → v < k → v < j → spell k (ltb v 10) v ≡ spell j (ltb v 10) v
spell-same zero j v h i = absurd (not-suc-le-zero h)
spell-same (suc k) zero v h i = absurd (not-suc-le-zero i)
spell-same (suc k) (suc j) v h i =
    by-test (ltb v 10)
    (λ t. rw t)
    (λ t.
    let l = ltb-false v 10 t in
    rw t (ap (λ (s : List ℕ). s ++ ((48 + v % 10) ∷ [])) (spell-same k j (v / 10) (omega arith) (omega arith))))

-- a number below ten is one digit
pub decimal-digit : (v : ℕ) → v < 10 → decimal v ≡ (48 + v) ∷ []
unfolding decimal
decimal-digit v h = rw (lt-ltb v 10 h)

-- any other is the text of its tens and the digit of its ones
pub decimal-tens : (v : ℕ) → 10 ≤ v → decimal v ≡ decimal (v / 10) ++ ((48 + v % 10) ∷ [])
unfolding decimal
decimal-tens v h =
    rw (le-ltb v 10 h)
    (ap (λ (s : List ℕ). s ++ ((48 + v % 10) ∷ [])) (spell-same v (suc (v / 10)) (v / 10) (omega arith) (omega arith)))

-- induction on the digits of a number
module _ (P : ℕ → Type 0) (single : (v : ℕ) → v < 10 → P v) (tens : (v : ℕ) → 10 ≤ v → P (v / 10) → P v) where
  below : (k v : ℕ) → v < k → P v
  below zero v h = absurd (not-suc-le-zero h)
  below (suc k) v h = by-order v 10 (single v) (λ l. tens v l (below k (v / 10) (omega arith)))

  pub by-digits : (v : ℕ) → P v
  by-digits v = below (suc v) v (omega arith)

-- one digit more
pub length-tens : (v : ℕ) → 10 ≤ v → length (decimal v) ≡ length (decimal (v / 10)) + 1
length-tens v h = ap length (decimal-tens v h) ∙ length-append (decimal (v / 10)) ((48 + v % 10) ∷ [])

pub decimal-some : (v : ℕ) → 1 ≤ length (decimal v)
decimal-some =
    by-digits (λ v. 1 ≤ length (decimal v))
    (λ v h. rw (decimal-digit v h) (omega arith))
    (λ v h ih. omega (arith, length-tens v h))

-- a number below 10 ^ k has at most k digits
pub decimal-length : (k v : ℕ) → v < 10 ^ suc k → length (decimal v) ≤ suc k
decimal-length zero v h = rw (decimal-digit v (omega (arith, pow-suc 10 0))) (omega arith)
decimal-length (suc k) v h =
    by-order v 10
    (λ l. rw (decimal-digit v l) (omega arith))
    (λ l. omega (arith, length-tens v l, decimal-length k (v / 10) (omega (arith, pow-suc 10 (suc k)))))

-- one of 10 ^ k or more has more than k
pub decimal-least : (k v : ℕ) → 10 ^ k ≤ v → suc k ≤ length (decimal v)
decimal-least zero v h = decimal-some v
decimal-least (suc k) v h =
    let up = pow-suc 10 k in
    let low : 1 ≤ 10 ^ k = pow-some k in
    omega (arith, length-tens v (omega arith), decimal-least k (v / 10) (omega arith))
  where
    pow-some : (k : ℕ) → 1 ≤ 10 ^ k
    pow-some zero = omega arith
    pow-some (suc k) = omega (arith, pow-suc 10 k, pow-some k)

-- so the digits of a number are counted by comparing it with the powers of ten
pub decimal-places : (k v : ℕ) → 10 ^ k ≤ v → v < 10 ^ suc k → suc k ≡ length (decimal v)
decimal-places k v h l = omega (arith, decimal-least k v h, decimal-length k v l)

front : (v : ℕ) → 10 ≤ v → get_or (decimal v) 0 0 ≡ get_or (decimal (v / 10)) 0 0
front v h = ap (λ (s : List ℕ). get_or s 0 0) (decimal-tens v h)
    ∙ get_or-append (decimal (v / 10)) ((48 + v % 10) ∷ []) 0 0 (decimal-some (v / 10))

-- the first byte is a digit
pub decimal-first : (v : ℕ) → 48 ≤ get_or (decimal v) 0 0
decimal-first =
    by-digits (λ v. 48 ≤ get_or (decimal v) 0 0)
    (λ v h. rw (decimal-digit v h) (omega arith))
    (λ v h ih. rw (front v h) ih)

-- and no 0 unless the number is 0
pub decimal-lead : (v : ℕ) → 1 ≤ v → get_or (decimal v) 0 0 ≡ 48 → ⊥
decimal-lead =
    by-digits (λ v. 1 ≤ v → get_or (decimal v) 0 0 ≡ 48 → ⊥)
    (λ v h p e. let z : 48 + v ≡ 48 = sym (ap (λ (s : List ℕ). get_or s 0 0) (decimal-digit v h)) ∙ e in omega arith)
    (λ v h ih p e. ih (omega arith) (sym (front v h) ∙ e))

lacks-snoc : (w : ℕ) (x : List ℕ) (b : ℕ) → lacks w x ≡ true → (b ≡ w → ⊥) → lacks w (x ++ (b ∷ [])) ≡ true
unfolding lacks
lacks-snoc w [] b p n = rw (ne_eqb b w n)
lacks-snoc w (c ∷ x) b p n = let q = lacks-head w c x p in rw q.0 (lacks-snoc w x b q.1 n)

-- no byte below the digits stands in it, so neither a tab nor a newline
pub decimal-lacks : (w : ℕ) → w < 48 → (v : ℕ) → lacks w (decimal v) ≡ true
unfolding lacks
decimal-lacks w l =
    by-digits (λ v. lacks w (decimal v) ≡ true)
    (λ v h. rw (decimal-digit v h, ne_eqb (48 + v) w (λ e. omega arith)))
    (λ v h ih. rw (decimal-tens v h) (lacks-snoc w (decimal (v / 10)) (48 + v % 10) ih (λ e. omega arith)))
