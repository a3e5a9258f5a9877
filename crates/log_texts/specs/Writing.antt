-- The texts as the code puts them together, and how long they can be.
-- Assumes nothing.
use Rattle.std.specs.Prelude.{ℕ, ◌+◌, ◌<◌, ◌≤◌, ◌≡◌, List, [], ◌∷◌, ◌++◌, length}
use Rattle.std.proofs.Math.Path.{refl}
use Rattle.std.proofs.Common.{append_assoc, arith, length-append}
use Rattle.text_fields.specs.Quoted.{quoted}
use Rattle.text_fields.specs.Fields.{line_of}
use Rattle.text_fields.specs.Decimal.{decimal}
use Rattle.text_fields.specs.Spelling.{decimal-length}
use Rattle.text_writing.specs.Placing.{Put}
use Rattle.text_writing.specs.Putting.{put-then}
use Rattle.text_writing.specs.Rows.{row_text, room, roomed, roomed-is, field_text}
use Rattle.pack_shown.specs.declared.Decision.{Decision}
use Rattle.log_texts.specs.Texts.{decision_text, refused_text, page_text}

-- `refused` and its tab, `page` and its tab.
abbrev pub refused_word : List ℕ
refused_word = quoted "refused\t"

abbrev pub page_word : List ℕ
page_word = quoted "page\t"

pub refused-parts : (number : ℕ) → refused_text number ≡ refused_word ++ field_text number 10
unfolding refused_text line_of
refused-parts number = refl

pub page-parts : (number word : ℕ) → page_text number word ≡ page_word ++ field_text number 9 ++ field_text word 10
unfolding page_text line_of
page-parts number word = simp append_assoc

-- A byte has three digits at most.
pub field-byte : (v end : ℕ) → v < 256 → length (field_text v end) ≤ 4
field-byte v end h = let k = decimal-length 2 v (omega arith) in omega (arith, length-append (decimal v) (end ∷ []))

-- ---- one text behind the other

-- A decision is a row.
module _ (d : Decision) where
  abbrev row : List ℕ
  row = row_text d.tick d.raised d.fets d.balance d.mode

  decision-row : decision_text d ≡ row
  unfolding decision_text row_text
  decision-row = refl

  pub decision-put : {o : List ℕ} {at : ℕ} {q : ℕ} {g : List ℕ} → at + room ≤ length o
      → Put o at (roomed (length o) at row) q g × (length (roomed (length o) at row) ≤ room)
      → Put o at (decision_text d) q g × (length (decision_text d) ≤ room)
  decision-put {o} {at} h p = rw decision-row (rw (roomed-is (length o) at row h) at p)

module _ (number : ℕ) (n : number < 256) where
  pub refused-few : length (refused_text number) ≤ 35
  refused-few = rw (refused-parts number, length-append) (omega (arith, field-byte number 10 n))

  pub refused-put : {o : List ℕ} {at : ℕ} {p : ℕ} {e : List ℕ} {q : ℕ} {g : List ℕ} → at + 35 ≤ length o
      → Put o at refused_word p e → Put e p (field_text number 10) q g → Put o at (refused_text number) q g
  refused-put h x y = let k = field-byte number 10 n in rw (refused-parts number) (put-then (omega arith) x y)

  pub page-put-at : (word : ℕ) → word < 256 → {o : List ℕ} {at p : ℕ} {e : List ℕ} {q : ℕ} {g : List ℕ} {r : ℕ} {u : List ℕ} → at + 35 ≤ length o
      → Put o at page_word p e → Put e p (field_text number 9) q g → Put g q (field_text word 10) r u → Put o at (page_text number word) r u
  page-put-at word w h x y z =
      let k = field-byte number 9 n in
      let l = field-byte word 10 w in
      rw (page-parts number word) (put-then (rw length-append (omega arith)) (put-then (omega arith) x y) z)

  pub page-put : (word : ℕ) → word < 256 → {o : List ℕ} {p : ℕ} {e : List ℕ} {q : ℕ} {g : List ℕ} {r : ℕ} {u : List ℕ} → 35 ≤ length o
      → Put o 0 page_word p e → Put e p (field_text number 9) q g → Put g q (field_text word 10) r u → Put o 0 (page_text number word) r u
  page-put word w h x y z = page-put-at word w (omega arith) x y z
