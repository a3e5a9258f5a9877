-- The refusal table 1 to 8 of the settings page. What each word of a page is, and what rows 5 to 8 ask of it, crate `page_faults` says.
-- Assumes nothing.
use Rattle.std.specs.Prelude.{Bool, not, ◌||◌, List, [], ◌∷◌, ℕ, suc, eqb, length, get_or, take}
use Rattle.laws.specs.Numbered.{list_from}
use Rattle.crc.specs.CheckByte.{check_byte}
use Rattle.page_words.specs.Ranges.{word_at}
use Rattle.page_faults.specs.Kinds.{layout_of, check_at}
use Rattle.page_faults.specs.Met.{meets}
use Rattle.page_faults.specs.declared.Layout.{Layout}
use Rattle.refusals.specs.Refusals.{Rule, rule, whole, Refusal, refusal, first}
use Rattle.refusals.specs.Verdicts.{Verdict, Accepted, Refused}

-- "2, word 0 is 0xA417", and "2 also for 0xA517": word 0 is one of the two marks read backwards, whatever the length of the page is.
abbrev pub read_backwards : ℕ → Bool
read_backwards x = eqb x 0xA417 || eqb x 0xA517

module _ (l : Layout) (b : List ℕ) where
  -- Word i has to meet the row; k words from i on.
  abbrev pub rules_from : ℕ → ℕ → ℕ → List Rule
  rules_from row = list_from (λ (i : ℕ). rule i (meets l row b i))

  -- Every word of the page, 0 to the last.
  abbrev pub word_rules : ℕ → List Rule
  word_rules row = rules_from row 0 (suc l.last)

  -- The refusal table, in the order of its numbers, for a page of that layout. "Refusal 1 is now given for a length other than 128 or 160",
  -- and "3 if the mark doesn't fit the length".
  abbrev pub refusals_of : List Refusal
  refusals_of =
      refusal 1 (whole (eqb (length b) 128 || eqb (length b) 160))
      ∷ refusal 2 (whole (not (read_backwards (word_at b 0))))
      ∷ refusal 3 (whole (eqb (word_at b 0) l.mark))
      ∷ refusal 4 (whole (eqb (get_or b (check_at l) 0) (check_byte (take (check_at l) b))))
      ∷ refusal 5 (word_rules 5)
      ∷ refusal 6 (word_rules 6)
      ∷ refusal 7 (word_rules 7)
      ∷ refusal 8 (word_rules 8)
      ∷ []

-- The layout of a page is that of its length.
unfoldable pub refusals : List ℕ → List Refusal
refusals b = refusals_of (layout_of (length b)) b

-- The verdict on the bytes b.
unfoldable pub judged : List ℕ → Verdict
unfolding refusals
judged b = first Refused Accepted (refusals b)
