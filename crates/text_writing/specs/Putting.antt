-- Texts put into a buffer, one behind the other.
use Rattle.std.specs.Prelude.{ℕ, suc, ◌+◌, ◌-◌, ◌/◌, ◌%◌, ◌<◌, ◌≤◌, ◌≡◌, refl, List, [], ◌∷◌, ◌++◌, leb, take, drop, set}
use Rattle.std.proofs.Common.{sym, ap, ap₂, ◌∙◌, append_assoc, add_assoc, le_refl, arith, length-append, length-drop, length-set, length-take-le, take_at, drop_at, drop-drop, drop-cons, drop-set-lt, get_or-set_same, le-leb, leb-true, leb-false}
use Rattle.std.proofs.Math.ListN.{length}
use Rattle.std.proofs.Math.Seq.{drop-append-add, take-length, paste}
use Rattle.std.proofs.lemmas.List.{take-set-le, set_split}
use Rattle.std.proofs.lemmas.Bool.{lt-leb}
use Rattle.laws.specs.Tests.{by-test}
use Rattle.text_fields.specs.Decimal.{decimal}
use Rattle.text_fields.specs.Spelling.{decimal-digit, decimal-tens, length-tens}
use Rattle.text_writing.specs.Placing.{written, has_room, placed, place_behind, Put}

-- ---- a text that has room

module _ (d : List ℕ) (at : ℕ) (s : List ℕ) (h : at + length s ≤ length d) where
  front-length : length (take at d ++ s) ≡ at + length s
  front-length = length-append (take at d) s ∙ ap (λ (k : ℕ). k + length s) (length-take-le at d (omega arith))

  split : written d at s ≡ (take at d ++ s) ++ drop (at + length s) d
  split = sym (append_assoc (take at d) s (drop (at + length s) d))

  pub written-length : length (written d at s) ≡ length d
  written-length = ap length split ∙ length-append (take at d ++ s) (drop (at + length s) d)
      ∙ omega (arith, front-length, length-drop (at + length s) d)

  pub written-front : take (at + length s) (written d at s) ≡ take at d ++ s
  written-front = ap (take (at + length s)) split ∙ take_at (take at d ++ s) (drop (at + length s) d) (at + length s) front-length

  pub written-rest : drop (at + length s) (written d at s) ≡ drop (at + length s) d
  written-rest = ap (drop (at + length s)) split ∙ drop_at (take at d ++ s) (drop (at + length s) d) (at + length s) front-length

  -- the text itself
  pub written-part : take (length s) (drop at (written d at s)) ≡ s
  written-part =
      ap (take (length s)) (drop_at (take at d) (s ++ drop (at + length s) d) at (length-take-le at d (omega arith)))
      ∙ take_at s (drop (at + length s) d) (length s) refl

  -- a text put behind s goes with it
  written-then : (t : List ℕ) → written (written d at s) (at + length s) t ≡ written d at (s ++ t)
  written-then t =
      let p : List ℕ = take at d ++ s in
      let q : List ℕ = drop (at + length s) d in
      let e : drop (at + length s + length t) (p ++ q) ≡ drop (at + length s + length t) d =
      ap (λ (k : ℕ). drop (k + length t) (p ++ q)) (sym front-length) ∙ drop-append-add p q (length t) ∙ drop-drop (length t) (at + length s) d
      in
      ap (λ (l : List ℕ). take (at + length s) l ++ (t ++ drop (at + length s + length t) l)) split
      ∙ rw (take_at p q (at + length s) front-length, e) (simp (append_assoc, length-append, add_assoc))

  pub put-yes : Put d at s (at + length s) (written d at s)
  unfolding placed place_behind
  put-yes = record { place = rw (le-leb (at + length s) (length d) h); bytes = rw (le-leb (at + length s) (length d) h) }

pub put-made : (d : List ℕ) (at : ℕ) (s e : List ℕ) → at + length s ≤ length d → e ≡ written d at s → Put d at s (at + length s) e
put-made d at s e h q = rw q (put-yes d at s h)

-- where the writer counted the text's bytes
pub put-said : (d : List ℕ) (at : ℕ) (s e : List ℕ) (k : ℕ) → k ≡ length s → at + k ≤ length d → e ≡ written d at s → Put d at s (at + k) e
put-said d at s e k n h q = rw n (put-made d at s e (omega arith) q)

pub put-no : (d : List ℕ) (at : ℕ) (s : List ℕ) → length d < at + length s → Put d at s at d
unfolding placed place_behind
put-no d at s h = record { place = rw (lt-leb (at + length s) (length d) h); bytes = rw (lt-leb (at + length s) (length d) h) }

-- ---- what a writer left, read off its contract

module _ {d : List ℕ} {at : ℕ} {s : List ℕ} {r : ℕ} {e : List ℕ} (p : Put d at s r e) where
  pub put-place : at + length s ≤ length d → r ≡ at + length s
  put-place h = p.place ∙ sym (put-yes d at s h).place

  pub put-bytes : at + length s ≤ length d → e ≡ written d at s
  put-bytes h = p.bytes ∙ sym (put-yes d at s h).bytes

  pub put-full-place : length d < at + length s → r ≡ at
  put-full-place h = p.place ∙ sym (put-no d at s h).place

  pub put-full-bytes : length d < at + length s → e ≡ d
  put-full-bytes h = p.bytes ∙ sym (put-no d at s h).bytes

  pub put-length : length e ≡ length d
  put-length =
      by-test (has_room d at s)
      (λ t. let h = leb-true (at + length s) (length d) t in ap length (put-bytes h) ∙ written-length d at s h)
      (λ t. ap length (put-full-bytes (leb-false (at + length s) (length d) t)))

  -- everything before the place behind the text, and everything from there on
  pub put-front : at + length s ≤ length d → take r e ≡ take at d ++ s
  put-front h = ap₂ take (put-place h) (put-bytes h) ∙ written-front d at s h

  pub put-rest : at + length s ≤ length d → drop r e ≡ drop r d
  put-rest h = ap₂ drop (put-place h) (put-bytes h) ∙ written-rest d at s h ∙ ap (λ (k : ℕ). drop k d) (sym (put-place h))

-- one text behind the other, where both have room
pub put-then : {d : List ℕ} {at : ℕ} {s : List ℕ} {r : ℕ} {e : List ℕ} {t : List ℕ} {r' : ℕ} {e' : List ℕ}
    → at + length s + length t ≤ length d → Put d at s r e → Put e r t r' e' → Put d at (s ++ t) r' e'
put-then {d} {at} {s} {r} {e} {t} {r'} {e'} h p q =
    let n : length (s ++ t) ≡ length s + length t = length-append s t in
    let h1 : at + length s ≤ length d = omega arith in
    let z : r ≡ at + length s = put-place p h1 in
    let l : length e ≡ length d = put-length p in
    let h2 : r + length t ≤ length e = omega arith in
    let y = put-yes d at (s ++ t) (omega arith) in
    let there : at + length s + length t ≡ at + length (s ++ t) = omega arith in
    record {
      place = put-place q h2 ∙ ap (λ (k : ℕ). k + length t) z ∙ there ∙ y.place;
      bytes = put-bytes q h2 ∙ ap₂ (λ (w : List ℕ) (k : ℕ). written w k t) (put-bytes p h1) z ∙ written-then d at s h1 t ∙ y.bytes;
    }

-- what a writer answers and leaves is determined
module _ {d : List ℕ} {at : ℕ} {s : List ℕ} {r e : _} {r' e' : _} (p : Put d at s r e) (q : Put d at s r' e') where
  pub put-one : (r ≡ r') × (e ≡ e')
  put-one = (p.place ∙ sym q.place, p.bytes ∙ sym q.bytes)

-- ---- the writers' loops

-- one byte
pub put-single : (d : List ℕ) (at b : ℕ) → at < length d → Put d at (b ∷ []) (at + 1) (set d at b)
put-single d at b h =
    let y = put-yes d at (b ∷ []) (omega arith) in
    let n : suc at ≡ at + 1 = omega arith in
    record { place = y.place; bytes = set_split d at b h ∙ ap (λ (k : ℕ). take at d ++ b ∷ drop k d) n ∙ y.bytes }

-- all bytes of a text were copied
pub copied : (d : List ℕ) (at : ℕ) (s : List ℕ) → paste d at s (length s) ≡ written d at s
copied d at s = append_assoc (take at d) (take (length s) s) (drop (at + length s) d) ∙ rw (take-length s)

drop-set-here : (l : List ℕ) (j x : ℕ) → j < length l → drop j (set l j x) ≡ x ∷ drop (suc j) l
drop-set-here l j x h =
    let h' : j < length (set l j x) = rw (length-set l j x) h in
    drop-cons (set l j x) j 0 h' ∙ rw (get_or-set_same l j x 0 h, drop-set-lt (suc j) l j x (le_refl (suc j)))

-- a digit stored in front of those that stand already: what is left to store is the text of the tens
pub digit-stored : (d : List ℕ) (at i v : ℕ) → 10 ≤ v → i + 1 ≡ at + length (decimal v) → i < length d
    → written (set d i (48 + v % 10)) at (decimal (v / 10)) ≡ written d at (decimal v)
digit-stored d at i v h e l =
    let n = length-tens v h in
    let m : at + length (decimal (v / 10)) ≡ i = omega arith in
    let k : suc i ≡ at + length (decimal v) = omega arith in
    rw (m, drop-set-here d i (48 + v % 10) l, take-set-le at d i (48 + v % 10) (omega arith), k)
    (ap (λ (s : List ℕ). take at d ++ s) (sym (append_assoc (decimal (v / 10)) ((48 + v % 10) ∷ []) (drop (at + length (decimal v)) d))
    ∙ ap (λ (s : List ℕ). s ++ drop (at + length (decimal v)) d) (sym (decimal-tens v h))))

-- the first digit, stored last
pub first-stored : (d : List ℕ) (at i v : ℕ) → v < 10 → i + 1 ≡ at + length (decimal v) → i < length d
    → set d i (48 + v) ≡ written d at (decimal v)
first-stored d at i v h e l =
    let n : length (decimal v) ≡ 1 = ap length (decimal-digit v h) in
    let m : i ≡ at = omega arith in
    let k : suc at ≡ at + 1 = omega arith in
    rw (decimal-digit v h, m) (set_split d at (48 + v) (let z = l in omega arith) ∙ ap (λ (j : ℕ). take at d ++ (48 + v) ∷ drop j d) k)

-- the test of the room without a sum
pub room-left : (size at count : ℕ) → count ≤ size → leb at (size - count) ≡ leb (at + count) size
room-left size at count h =
    by-test (leb at (size - count))
    (λ t. let k = leb-true at (size - count) t in t ∙ sym (le-leb (at + count) size (omega arith)))
    (λ t. let k = leb-false at (size - count) t in t ∙ sym (lt-leb (at + count) size (omega arith)))

-- ---- the last three digits at once

module _ (v : ℕ) (h : 1000 ≤ v) where
  -- a number of four digits or more is the text of its thousands, and the digits of its hundreds, its tens and its ones
  decimal-thousands : decimal v ≡ ((decimal (v / 1000) ++ ((48 + v / 100 % 10) ∷ [])) ++ ((48 + v / 10 % 10) ∷ [])) ++ ((48 + v % 10) ∷ [])
  decimal-thousands =
      let tens : decimal (v / 10) ≡ decimal (v / 100) ++ ((48 + v / 10 % 10) ∷ []) =
      decimal-tens (v / 10) (omega arith) ∙ ap (λ (w : ℕ). decimal w ++ ((48 + v / 10 % 10) ∷ [])) (omega arith) in
      let hundreds : decimal (v / 100) ≡ decimal (v / 1000) ++ ((48 + v / 100 % 10) ∷ []) =
      decimal-tens (v / 100) (omega arith) ∙ ap (λ (w : ℕ). decimal w ++ ((48 + v / 100 % 10) ∷ [])) (omega arith) in
      decimal-tens v (omega arith) ∙ rw (tens, hundreds)

  pub length-thousands : length (decimal v) ≡ length (decimal (v / 1000)) + 3
  length-thousands = rw (decimal-thousands, length-append, length-append, length-append) (omega arith)

  module _ {d : List ℕ} {at : ℕ} {r : ℕ} {e : List ℕ} (k : at + length (decimal v) ≤ length d) (p : Put d at (decimal (v / 1000)) r e) where
    -- the three have room behind the thousands,
    pub thousands-room : r + 3 ≤ length e
    thousands-room = let n = length-thousands in let z = put-place p (omega arith) in let l = put-length p in omega arith

    -- and stored there they make the text whole
    pub thousands-put : Put d at (decimal v) (r + 3) (set (set (set e r (48 + v / 100 % 10)) (r + 1) (48 + v / 10 % 10)) (r + 2) (48 + v % 10))
    thousands-put =
        let n = length-thousands in
        let m = thousands-room in
        let q = put-then (omega arith) p (put-single e r (48 + v / 100 % 10) (omega arith)) in
        let q' = put-then (rw length-append (omega arith)) q (put-single _ (r + 1) (48 + v / 10 % 10) (rw length-set (omega arith))) in
        let q'' = put-then (rw (length-append, length-append) (omega arith)) q'
        (put-single _ (r + 1 + 1) (48 + v % 10) (rw (length-set, length-set) (omega arith))) in
        let two : r + 1 + 1 ≡ r + 2 = omega arith in
        let three : r + 2 + 1 ≡ r + 3 = omega arith in
        rw decimal-thousands (rw (two, three) at q'')
