-- The table as the judge walks it: for each row the lowest of the page's words that does not meet it.
-- Assumes nothing.
use Rattle.std.specs.Prelude.{Ok, Err, ◌≡◌, Bool, true, false, not, cond, List, [], ◌∷◌, eqb, length, get_or, take}
use Rattle.std.proofs.Math.Path.{refl, ap}
use Rattle.std.proofs.Common.{ap₂, ◌∙◌, not-suc-le-zero, add-one}
use Prim.Native.Nat.{ℕ, zero, suc, ◌+◌, ◌-◌, ◌<◌}
use Rattle.std.proofs.Math.Numerals.{sub-one}
use Rattle.laws.specs.Numbered.{list_from}
use Rattle.laws.specs.Tests.{by-test}
use Rattle.crc.specs.CheckByte.{check_byte}
use Rattle.page_words.specs.Ranges.{word_at}
use Rattle.page_faults.specs.Kinds.{layout_of, check_at, bytes_of, length-fits}
use Rattle.page_faults.specs.Met.{meets}
use Rattle.page_faults.specs.declared.Layout.{Layout}
use Rattle.refusals.specs.Refusals.{Rule, first_rule, given, first-map}
use Rattle.page_judge.specs.Page.{read_backwards, rules_from, word_rules, refusals, judged}
use Rattle.refusals.specs.Answers.{answer_of}
use Rattle.refusals.specs.Verdicts.{Verdict, Accepted, Refused}

-- The lowest word that does not meet the row, among k words from i on.
unfoldable pub lowest_from : Layout → ℕ → List ℕ → ℕ → ℕ → Verdict
lowest_from l row b i k = first_rule Refused row (rules_from l b row i k) Accepted

-- Among all words of the page.
unfoldable pub lowest_word : Layout → ℕ → List ℕ → Verdict
lowest_word l row b = first_rule Refused row (word_rules l b row) Accepted

abbrev pub or_else : Verdict → Verdict → Verdict
or_else (Ok done) v = v
or_else (Err refusal) v = Err refusal

-- Rows 5 to 8.
unfoldable pub faults_of : Layout → List ℕ → Verdict
faults_of l b = or_else (lowest_word l 5 b) (or_else (lowest_word l 6 b) (or_else (lowest_word l 7 b) (lowest_word l 8 b)))

-- The judge's own order of tests, for a page of that layout.
abbrev pub judged_as : Layout → List ℕ → Verdict
judged_as l b =
    cond (eqb (length b) (bytes_of l))
    (cond (read_backwards (word_at b 0)) (Refused 2 0)
    (cond (eqb (word_at b 0) l.mark)
    (cond (eqb (get_or b (check_at l) 0) (check_byte (take (check_at l) b))) (faults_of l b) (Refused 4 0))
    (Refused 3 0)))
    (Refused 1 0)

-- ---- the loop's steps: it starts, it goes on, it refuses, it ends

module _ (l : Layout) (row : ℕ) (b : List ℕ) where
  pub starts : lowest_word l row b ≡ lowest_from l row b 0 (suc l.last)
  unfolding lowest_word lowest_from
  starts = refl

  pub goes-on : (i k : ℕ) → 0 < k → meets l row b i ≡ true → lowest_from l row b i k ≡ lowest_from l row b (i + 1) (k - 1)
  unfolding lowest_from list_from
  goes-on i zero h e = absurd (not-suc-le-zero h)
  goes-on i (suc k) h e = rw (e, sub-one, add-one)

  pub refuses : (i k : ℕ) → 0 < k → meets l row b i ≡ false → lowest_from l row b i k ≡ Refused row i
  unfolding lowest_from list_from
  refuses i zero h e = absurd (not-suc-le-zero h)
  refuses i (suc k) h e = rw e

  pub ends : (i k : ℕ) → k ≡ 0 → lowest_from l row b i k ≡ Accepted
  unfolding lowest_from list_from
  ends i k e = rw e

-- ---- the walk is the table

-- A row's rules, then the others.
first-else : (k : ℕ) (cs : List Rule) (v : Verdict) → first_rule Refused k cs v ≡ or_else (first_rule Refused k cs Accepted) v
first-else k [] v = refl
first-else k (c ∷ cs) v = by-test c.met (λ t. rw t (first-else k cs v)) (λ t. rw t)

head : {t0 t1 : Bool} → t0 ≡ t1 → (t2 t3 t4 : Bool) {v w : Verdict} → v ≡ w
    → cond t0 (cond (not t2) (cond t3 (cond t4 v (Refused 4 0)) (Refused 3 0)) (Refused 2 0)) (Refused 1 0)
    ≡ cond t1 (cond t2 (Refused 2 0) (cond t3 (cond t4 w (Refused 4 0)) (Refused 3 0))) (Refused 1 0)
head z true t3 t4 e = ap (λ (t : Bool). cond t (Refused 2 0) (Refused 1 0)) z
head z false t3 t4 e = ap₂ (λ (t : Bool) (x : Verdict). cond t (cond t3 (cond t4 x (Refused 4 0)) (Refused 3 0)) (Refused 1 0)) z e

faults-are : (l : Layout) (b : List ℕ)
    → first_rule Refused 5 (word_rules l b 5)
    (first_rule Refused 6 (word_rules l b 6)
    (first_rule Refused 7 (word_rules l b 7)
    (first_rule Refused 8 (word_rules l b 8) Accepted)))
    ≡ faults_of l b
unfolding faults_of lowest_word
faults-are l b =
    let eight = first_rule Refused 8 (word_rules l b 8) Accepted in
    let seven = first_rule Refused 7 (word_rules l b 7) eight in
    let six = first_rule Refused 6 (word_rules l b 6) seven in
    first-else 5 (word_rules l b 5) six
    ∙ ap (or_else (first_rule Refused 5 (word_rules l b 5) Accepted))
    (first-else 6 (word_rules l b 6) seven
    ∙ ap (or_else (first_rule Refused 6 (word_rules l b 6) Accepted))
    (first-else 7 (word_rules l b 7) eight))

module _ (b : List ℕ) where
  pub judged-is : judged b ≡ judged_as (layout_of (length b)) b
  unfolding judged refusals
  judged-is =
      let l : Layout = layout_of (length b) in
      head (length-fits (length b)) (read_backwards (word_at b 0)) (eqb (word_at b 0) l.mark)
      (eqb (get_or b (check_at l) 0) (check_byte (take (check_at l) b))) (faults-are l b)

  -- By a layout that is the page's own.
  pub judged-by : (l : Layout) → l ≡ layout_of (length b) → judged b ≡ judged_as l b
  judged-by l e = rw e judged-is

  -- A verdict that is the table's has the table's number and word.
  pub judged-answer : (v : Verdict) → v ≡ judged b → (v ≡ judged b) × (answer_of v ≡ given (refusals b))
  unfolding judged
  judged-answer v e = (e, ap answer_of e ∙ first-map answer_of Refused Accepted (refusals b))
