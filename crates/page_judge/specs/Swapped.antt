-- "If a page is taken, the same page with all its byte pairs swapped is refused."
-- Assumes nothing.
use Rattle.std.specs.Prelude.{◌≡◌, refl, true, List, [], ◌∷◌, ℕ, suc, ◌+◌, ◌*◌, ◌/◌, ◌%◌, ◌<◌, ◌≤◌, length, get_or}
use Rattle.std.proofs.Common.{ap, arith, eq-eqb}
use Rattle.page_words.specs.Ranges.{word_at}
use Rattle.page_faults.specs.Kinds.{layout_of, bytes_of, both}
use Rattle.page_faults.specs.declared.Layout.{Layout}
use Rattle.page_judge.specs.Page.{read_backwards, judged}
use Rattle.page_judge.specs.Walk.{judged-is}
use Rattle.page_judge.specs.Accepted.{accepted-length, accepted-mark}
use Rattle.refusals.specs.Verdicts.{Accepted, Refused}

-- All byte pairs swapped; a last byte without a partner stays.
abbrev pub swapped : List ℕ → List ℕ
swapped [] = []
swapped (x ∷ []) = x ∷ []
swapped (x ∷ (y ∷ l)) = y ∷ (x ∷ swapped l)

-- Every pair, not the first alone.
swapped-pairs : (swapped (1 ∷ 2 ∷ 3 ∷ 4 ∷ []) ∷ swapped (1 ∷ 2 ∷ 3 ∷ []) ∷ []) ≡ ((2 ∷ 1 ∷ 4 ∷ 3 ∷ []) ∷ (2 ∷ 1 ∷ 3 ∷ []) ∷ [])
swapped-pairs = refl

swapped-length : (b : List ℕ) → length (swapped b) ≡ length b
swapped-length [] = refl
swapped-length (x ∷ []) = refl
swapped-length (x ∷ (y ∷ l)) = ap (λ (n : ℕ). suc (suc n)) (swapped-length l)

-- A word with its two bytes exchanged.
abbrev swapped_word : ℕ → ℕ
swapped_word x = x / 256 + 256 * (x % 256)

-- Word 0 of the swapped bytes, where it has two bytes and the second isn't 0.
swapped-first : (b : List ℕ) → ((i : ℕ) → get_or b i 0 < 256) → 256 ≤ word_at b 0 → word_at (swapped b) 0 ≡ swapped_word (word_at b 0)
unfolding word_at
swapped-first [] small h = absurd (omega arith)
swapped-first (x ∷ []) small h = let s = small 0 in absurd (omega arith)
swapped-first (x ∷ (y ∷ l)) small h = let s = small 0 in let t = small 1 in omega arith

-- Each of the two marks has two such bytes, and is told when it is read backwards.
mark-wide : (n : ℕ) → 256 ≤ (layout_of n).mark
mark-wide = both (λ (l : Layout). 256 ≤ l.mark) (omega arith) (omega arith)

mark-backwards : (n : ℕ) → read_backwards (swapped_word (layout_of n).mark) ≡ true
mark-backwards = both (λ (l : Layout). read_backwards (swapped_word l.mark) ≡ true) refl refl

-- Of bytes b, each below 256, on a page of either length.
pub swapped-refused : (b : List ℕ) → ((i : ℕ) → get_or b i 0 < 256) → judged b ≡ Accepted → judged (swapped b) ≡ Refused 2 0
swapped-refused b small e =
    let l : Layout = layout_of (length b) in
    let size : length b ≡ bytes_of l = accepted-length b e in
    let mark : word_at b 0 ≡ l.mark = accepted-mark b e in
    let wide : 256 ≤ word_at b 0 = rw mark (mark-wide (length b)) in
    let told : read_backwards (swapped_word l.mark) ≡ true = both (λ (m : Layout). read_backwards (swapped_word m.mark) ≡ true) refl refl (length b) in
    rw (judged-is, swapped-length b, eq-eqb (length b) (bytes_of l) size, swapped-first b small wide, mark, told)
