-- A row of five numbers, as a text and as the code puts it together, and room for the longest: without it nothing is written.
use Rattle.std.specs.Prelude.{ℕ, ◌+◌, ◌<◌, ◌≤◌, ◌≡◌, cond, List, [], ◌∷◌, ◌++◌, ltb, length}
use Rattle.std.proofs.Common.{sym, append_assoc, add-zero, arith, take-append-drop, le-ltb, lt-ltb}
use Rattle.std.proofs.Math.ListN.{length-append}
use Rattle.laws.specs.Tests.{by-order}
use Rattle.text_fields.specs.Fields.{line_of}
use Rattle.text_fields.specs.Decimal.{decimal}
use Rattle.text_fields.specs.Spelling.{decimal-length}
use Rattle.text_writing.specs.Placing.{Put}
use Rattle.text_writing.specs.Putting.{put-made, put-no, put-place, put-length, put-then}

-- five numbers, "all decimal", parted by tabs and ended by a newline
unfoldable pub row_text : ℕ → ℕ → ℕ → ℕ → ℕ → List ℕ
row_text first second third fourth fifth =
    line_of (decimal first ∷ decimal second ∷ decimal third ∷ decimal fourth ∷ decimal fifth ∷ [])

-- the bytes of the longest row: ten digits, four times five, and the five bytes behind them
abbrev pub room : ℕ
room = 35

-- what is written at at into a buffer of size bytes: nothing where the longest row has no room
unfoldable pub roomed : ℕ → ℕ → List ℕ → List ℕ
roomed size at s = cond (ltb size (at + room)) [] s

-- ---- as the code puts it together

-- a number and the byte behind it
abbrev pub field_text : ℕ → ℕ → List ℕ
field_text v end = decimal v ++ (end ∷ [])

-- the first three fields of a row, and the last two
unfoldable pub front_text : ℕ → ℕ → ℕ → List ℕ
front_text first second third = field_text first 9 ++ field_text second 9 ++ field_text third 9

unfoldable pub back_text : ℕ → ℕ → List ℕ
back_text fourth fifth = field_text fourth 9 ++ field_text fifth 10

row-parts : (first second third fourth fifth : ℕ)
    → row_text first second third fourth fifth ≡ front_text first second third ++ back_text fourth fifth
unfolding row_text line_of front_text back_text
row-parts first second third fourth fifth = simp append_assoc

-- a number of 32 bits has ten digits at most, one of 16 bits five
pub field-long : (v end : ℕ) → v < 4294967296 → length (field_text v end) ≤ 11
field-long v end h = let k = decimal-length 9 v (omega arith) in omega (arith, length-append (decimal v) (end ∷ []))

pub field-word : (v end : ℕ) → v < 65536 → length (field_text v end) ≤ 6
field-word v end h = let k = decimal-length 4 v (omega arith) in omega (arith, length-append (decimal v) (end ∷ []))

-- what has room behind a text
pub put-room : {d : List ℕ} {at : ℕ} {s : List ℕ} {r : ℕ} {e : List ℕ} (k : ℕ) → Put d at s r e → at + length s + k ≤ length d
    → r + k ≤ length e
put-room {d} {at} {s} {r} {e} k p h = let z = put-place p (omega arith) in let l = put-length p in omega arith

pub word-room : {d : List ℕ} {at : ℕ} {s : List ℕ} {r : ℕ} {e : List ℕ} (v end : ℕ) → v < 65536 → Put d at s r e
    → at + length s + 6 ≤ length d → r + length (field_text v end) ≤ length e
word-room v end h p k = put-room _ p (omega (arith, field-word v end h))

pub put-field : {d : List ℕ} {at : ℕ} (v end : ℕ) {r : ℕ} {e : List ℕ} {r' : ℕ} {e' : List ℕ} → at + length (field_text v end) ≤ length d
    → Put d at (decimal v) r e → Put e r (end ∷ []) r' e' → Put d at (field_text v end) r' e'
put-field v end h p q = put-then (omega (arith, length-append (decimal v) (end ∷ []))) p q

module _ (first second third : ℕ) (x : first < 4294967296) (y : second < 65536) (z : third < 65536) where
  pub front-few : length (front_text first second third) ≤ 23
  unfolding front_text
  front-few =
      rw (length-append, length-append)
      (omega (arith, field-long first 9 x, field-word second 9 y, field-word third 9 z))

  pub front-put : {d : List ℕ} {at : ℕ} {p : ℕ} {e : List ℕ} {q : ℕ} {g : List ℕ} {w : ℕ} {o : List ℕ} → at + 23 ≤ length d
      → Put d at (field_text first 9) p e → Put e p (field_text second 9) q g → Put g q (field_text third 9) w o
      → Put d at (front_text first second third) w o
  unfolding front_text
  front-put h a b c =
      let k = field-long first 9 x in
      let l = field-word second 9 y in
      let m = field-word third 9 z in
      put-then (rw length-append (omega arith)) (put-then (omega arith) a b) c

module _ (fourth fifth : ℕ) (x : fourth < 65536) (y : fifth < 65536) where
  pub back-few : length (back_text fourth fifth) ≤ 12
  unfolding back_text
  back-few = rw length-append (omega (arith, field-word fourth 9 x, field-word fifth 10 y))

  pub back-put : {d : List ℕ} {at : ℕ} {p : ℕ} {e : List ℕ} {w : ℕ} {o : List ℕ} → at + 12 ≤ length d
      → Put d at (field_text fourth 9) p e → Put e p (field_text fifth 10) w o → Put d at (back_text fourth fifth) w o
  unfolding back_text
  back-put h a b =
      let k = field-word fourth 9 x in
      let l = field-word fifth 10 y in
      put-then (omega arith) a b

pub row-put : (first second third fourth fifth : ℕ) {o : List ℕ} {at : ℕ} {p : ℕ} {e : List ℕ} {q : ℕ} {g : List ℕ}
    → at + room ≤ length o
    → Put o at (front_text first second third) p e × (length (front_text first second third) ≤ 23)
    → Put e p (back_text fourth fifth) q g × (length (back_text fourth fifth) ≤ 12)
    → Put o at (row_text first second third fourth fifth) q g × (length (row_text first second third fourth fifth) ≤ room)
row-put first second third fourth fifth h a b =
    let k = a.1 in
    let l = b.1 in
    let is = row-parts first second third fourth fifth in
    (rw is (put-then (omega arith) a.0 b.0), rw (is, length-append) (omega arith))

-- ---- room for the longest row

pub nothing-put : (d : List ℕ) (at : ℕ) → Put d at [] at d
nothing-put d at =
    by-order (length d) (at + 0)
    (λ h. put-no d at [] h)
    (λ h. rw (add-zero at) at (put-made d at [] d h (rw (add-zero at) (sym (take-append-drop at d)))))

-- no room
pub roomed-short : (d : List ℕ) (at : ℕ) (s : List ℕ) → length d < at + room
    → Put d at (roomed (length d) at s) at d × (length (roomed (length d) at s) ≤ room)
unfolding roomed
roomed-short d at s h = rw (lt-ltb (length d) (at + room) h) (nothing-put d at, omega arith)

-- the longest row has room
pub roomed-is : (size at : ℕ) (s : List ℕ) → at + room ≤ size → roomed size at s ≡ s
unfolding roomed
roomed-is size at s h = rw (le-ltb size (at + room) h)

pub roomed-put : (d : List ℕ) (at : ℕ) (s : List ℕ) (r : ℕ) (e : List ℕ) → at + room ≤ length d → Put d at s r e
    → Put d at (roomed (length d) at s) r e
roomed-put d at s r e h p = rw (roomed-is (length d) at s h) p

pub roomed-made : (d : List ℕ) (at : ℕ) (s : List ℕ) (r : ℕ) (e : List ℕ) → at + room ≤ length d → Put d at s r e × (length s ≤ room)
    → Put d at (roomed (length d) at s) r e × (length (roomed (length d) at s) ≤ room)
roomed-made d at s r e h p = rw (roomed-is (length d) at s h) p
