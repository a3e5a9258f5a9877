-- The page's refusals are given exactly as the table says, for both lengths at once: each number if its row applies and no lower row does, with its
-- lowest word at fault; the page is accepted if no row applies.
-- Assumes nothing.
use Rattle.std.specs.Prelude.{◌≡◌, refl, true, false, List, ◌↔◌, ℕ, zero, suc, length}
use Rattle.std.proofs.Common.{ap, true≢false, le_refl, le-leb}
use Rattle.laws.specs.Numbered.{list_from}
use Rattle.refusals.specs.Refusals.{Lowest, NoFault, words_from, rows_from, none-exactly, refuse-exactly}
use Rattle.page_faults.specs.Kinds.{layout_of}
use Rattle.page_faults.specs.declared.Layout.{Layout}
use Rattle.page_judge.specs.Page.{rules_from, word_rules, refusals_of, refusals, judged}
use Rattle.refusals.specs.Answers.{answer_of}
use Rattle.refusals.specs.Verdicts.{Verdict, Accepted, Refused}

-- The rows stand in the order of their numbers, from 1 on, and the rules of each in the order of their words, for any layout.
words-ordered : (l : Layout) (b : List ℕ) (row i k : ℕ) → words_from i (rules_from l b row i k) ≡ true
unfolding list_from
words-ordered l b row i zero = refl
words-ordered l b row i (suc k) = rw (le-leb i i (le_refl i)) (words-ordered l b row (suc i) k)

rows-ordered : (l : Layout) (b : List ℕ) → rows_from 1 (refusals_of l b) ≡ true
rows-ordered l b =
    let at : (row : ℕ) → words_from 0 (word_rules l b row) ≡ true = λ row. words-ordered l b row 0 (suc l.last) in
    rw (at 5, at 6, at 7, at 8)

refusals-ordered : (b : List ℕ) → rows_from 1 (refusals b) ≡ true
unfolding refusals
refusals-ordered b = rows-ordered (layout_of (length b)) b

pub refused-not : (k w : ℕ) → Refused k w ≡ Accepted → ⊥
refused-not k w e = let z : true ≡ false = cc in true≢false z

pub refused-one : (k w j v : ℕ) → Refused k w ≡ Refused j v → (k ≡ j) × (w ≡ v)
refused-one k w j v e = (ap (λ (x : Verdict). (answer_of x).number) e, ap (λ (x : Verdict). (answer_of x).word) e)

pub accepted-exactly : (b : List ℕ) → (judged b ≡ Accepted) ↔ NoFault (refusals b)
unfolding judged
accepted-exactly b = none-exactly Refused Accepted refused-not refused-one 1 (refusals b) (refusals-ordered b)

pub refused-exactly : (b : List ℕ) (k w : ℕ) → (judged b ≡ Refused k w) ↔ Lowest (refusals b) k w
unfolding judged
refused-exactly b k w = refuse-exactly Refused Accepted refused-not refused-one 1 (refusals b) (refusals-ordered b) k w
