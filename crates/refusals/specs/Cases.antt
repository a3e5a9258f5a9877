-- Small tables worked by hand: which number and word they give.
-- Assumes nothing.
use Rattle.std.specs.Prelude.{◌≡◌, refl, Bool, true, false, List, [], ◌∷◌, map}
use Rattle.refusals.specs.Refusals.{rule, whole, Refusal, refusal, answer, given, rows_from}
use Rattle.refusals.specs.Answers.{answer_of}
use Rattle.refusals.specs.Verdicts.{Accepted, Refused}

-- A row of the whole, and two rows of words, each with one rule met and two that may be broken.
abbrev table : Bool → Bool → Bool → List Refusal
table ok five six =
    refusal 4 (whole ok)
    ∷ refusal 5 (rule 9 true ∷ rule 12 five ∷ rule 14 five ∷ [])
    ∷ refusal 6 (rule 1 six ∷ rule 2 true ∷ rule 3 six ∷ [])
    ∷ []

-- The lowest number first, and of its words the lowest; a rule of the whole names word 0; nothing broken gives 0 and 0.
givens : (given (table false false false) ∷ given (table true false false) ∷ given (table true true false) ∷ given (table true true true) ∷ [])
    ≡ (answer 4 0 ∷ answer 5 12 ∷ answer 6 1 ∷ answer 0 0 ∷ [])
givens = refl

-- A table is in order if its numbers ascend, and the words of each row.
orders
    : map (rows_from 1) (table true true true
    ∷ (refusal 6 [] ∷ refusal 5 [] ∷ [])
    ∷ (refusal 5 [] ∷ refusal 5 [] ∷ [])
    ∷ (refusal 5 (rule 2 true ∷ rule 1 true ∷ []) ∷ [])
    ∷ (refusal 5 (rule 2 true ∷ rule 2 true ∷ []) ∷ [])
    ∷ [])
    ≡ (true ∷ false ∷ false ∷ false ∷ false ∷ [])
orders = refl

-- Number before word.
answers : (answer_of (Refused 7 16) ∷ answer_of Accepted ∷ []) ≡ (answer 7 16 ∷ answer 0 0 ∷ [])
answers = refl
