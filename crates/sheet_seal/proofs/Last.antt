-- Sealing changes the value of the last line and nothing else, and that value is the check byte of all that the other lines say.
-- Assumes nothing.
use Rattle.std.specs.Prelude.{◌≡◌, take}
use Rattle.std.proofs.Math.Path.{refl, ap, ap₂}
use Rattle.std.proofs.Common.{sym, ◌∙◌, length-append, length-take-le, get_or-take, eq-eqb, ne_eqb}
use mathlib.Core.List.{List, [], ◌∷◌, ◌++◌}
use Prim.Native.Nat.{ℕ, zero, suc, ◌+◌, ◌-◌, ◌*◌, ◌<◌, ◌≤◌}
use native.Mathlib.Omega.{arith}
use Rattle.std.proofs.Math.ListN.{length, get_or, get_or-append}
use Rattle.std.proofs.Math.Seq.{get_or-append_seam}
use Rattle.crc.specs.CheckByte.{check_byte}
use Rattle.page_words.specs.Ranges.{word_at}
use Rattle.page_faults.specs.Kinds.{layout_of, check_at}
use Rattle.page_faults.specs.declared.Layout.{Layout}
use Rattle.sheet_names.specs.Names.{line_text}
use Rattle.sheet_write.specs.Sheet.{value_at, lines_text, sheet_text, sheet_of}
use Rattle.sheet_read.specs.Reading.{has_long_mark, sheet_layout, bad_in, page_said}
use Rattle.sheet_read.specs.Unjudged.{said-length}
use Rattle.sheet_back.specs.Back.{said-sheet, layout-back}
use Rattle.sheet_seal.specs.Sealed.{sealed_page, sealed_text}
use Rattle.sheet_seal.specs.Last.{LastAlone}

module _ (l : Layout) (b : List ℕ) (size : length b ≡ 2 * (l.last + 1)) where
  -- the bytes before the check byte, and their check byte
  abbrev front : List ℕ
  front = take (check_at l) b

  front-length : length front ≡ check_at l
  front-length = length-take-le (check_at l) b (omega arith)

  sealed-is : sealed_page b ≡ front ++ (check_byte front ∷ [])
  unfolding sealed_page
  sealed-is = let n : length b - 1 ≡ check_at l = omega arith in rw n

  pub sealed-length : length (sealed_page b) ≡ length b
  sealed-length = ap length sealed-is ∙ length-append front (check_byte front ∷ []) ∙ rw front-length (omega arith)

  byte-same : (j : ℕ) → j < check_at l → get_or (sealed_page b) j 0 ≡ get_or b j 0
  byte-same j h =
      ap (λ (x : List ℕ). get_or x j 0) sealed-is
      ∙ get_or-append front (check_byte front ∷ []) 0 j (rw front-length h)
      ∙ get_or-take (check_at l) b j 0 h

  value-same : (i : ℕ) → i < l.last → value_at l (sealed_page b) i ≡ value_at l b i
  unfolding value_at word_at
  value-same i h = rw (ne_eqb i l.last (λ e. omega arith), byte-same (2 * i) (omega arith), byte-same (2 * i + 1) (omega arith))

  lines-same : (k : ℕ) → k ≤ l.last → lines_text l (sealed_page b) k ≡ lines_text l b k
  unfolding lines_text
  lines-same zero h = refl
  lines-same (suc k) h = ap₂ (λ (x : List ℕ) (v : ℕ). x ++ line_text l k v) (lines-same k (omega arith)) (value-same k (omega arith))

  value-last : value_at l (sealed_page b) l.last ≡ check_byte front
  unfolding value_at
  value-last =
      rw (eq-eqb l.last l.last refl)
      (ap (λ (x : List ℕ). get_or x (check_at l) 0) sealed-is
      ∙ ap (λ (j : ℕ). get_or (front ++ (check_byte front ∷ [])) j 0) (sym front-length)
      ∙ get_or-append_seam front (check_byte front) [] 0)

  pub text-sealed : sheet_text l (sealed_page b) ≡ lines_text l b l.last ++ line_text l l.last (check_byte front)
  unfolding sheet_text lines_text
  text-sealed = ap₂ (λ (x : List ℕ) (v : ℕ). x ++ line_text l l.last v) (lines-same l.last (omega arith)) value-last

-- A sheet without a bad line is so.
pub last-alone : (t : List ℕ) → bad_in t ≡ 0 → LastAlone t (sheet_layout t) (page_said t)
unfolding sealed_text sheet_of sheet_text lines_text
last-alone t e =
    let l : Layout = sheet_layout t in
    let b : List ℕ = page_said t in
    let n : length b ≡ 2 * (l.last + 1) = said-length t in
    let own : layout_of (length b) ≡ l = ap layout_of n ∙ layout-back (has_long_mark t) in
    let own' : layout_of (length (sealed_page b)) ≡ l = ap layout_of (sealed-length l b n) ∙ own in
    record {
      before = said-sheet t e ∙ ap (λ (x : Layout). sheet_text x b) own;
      after = ap (λ (x : Layout). sheet_text x (sealed_page b)) own' ∙ text-sealed l b n;
    }
