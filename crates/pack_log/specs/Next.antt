-- THE NEXT LINE of a text from a place on, as a value: the line up to the next newline, and what it says.
-- Assumes nothing.
use Rattle.std.specs.Prelude.{ℕ, ◌+◌, ◌-◌, ◌≡◌, refl, true, List, take, drop, Option, Some, None}
use Rattle.std.proofs.Common.{sym, ◌∙◌, arith}
use Rattle.std.proofs.Math.Path.{ap}
use Rattle.log_lines.specs.declared.NextLine.{NextLine}
use Rattle.log_lines.specs.Lines.{Ends, plain, end_of, next_line}
use Rattle.log_lines.specs.Walking.{Ended, ended-line, next-ends, next-unfinished, next-found}
use Rattle.log_entries.specs.declared.Entry.{Entry}
use Rattle.log_entries.specs.declared.Ahead.{Ahead}
use Rattle.log_entries.specs.Entry.{read_entry}
use Rattle.log_entries.specs.Ahead.{read_ahead}
use Rattle.log_entries.proofs.AheadLaws.{ahead-is}
use Rattle.pack_log.specs.declared.next.NextEntry.{NextEntry}

-- A line was found: what it says, and where the line behind it starts.
abbrev pub next_at : ℕ → Entry → Option NextEntry
next_at next e = Some (record { next = next; entry = e })

abbrev pub entry_at : List ℕ → ℕ → Option NextLine → Option NextEntry
entry_at text from (Some l) = next_at l.next (read_entry (take (l.end - from) (drop from text)))
entry_at text from None = None

-- The line up to the next newline, and what it says, if a newline is left.
unfoldable pub next_entry : List ℕ → ℕ → Option NextEntry
next_entry text from = entry_at text from (next_line text from)

-- ---- what it says of a text

-- Its newline was found and it says what its bytes say, or no newline is left.
abbrev pub NextIs : List ℕ → ℕ → Option NextEntry → Type 0
NextIs text from (Some n) = Ended text from (n.next - 1) n.next × (n.entry ≡ read_entry (take (n.next - 1 - from) (drop from text)))
NextIs text from None = plain (drop from text) ≡ true

module _ (text : List ℕ) (from : ℕ) where
  by-line : (l : Option NextLine) → next_line text from ≡ l → NextIs text from (entry_at text from l)
  by-line (Some l) q =
      let n = next-ends text from l.end l.next q in
      let j : l.end ≡ l.next - 1 = omega (arith, n.after) in
      (rw j at n, ap (λ (i : ℕ). read_entry (take (i - from) (drop from text))) j)
  by-line None q = next-unfinished text from q

  pub next-is : (n : Option NextEntry) → n ≡ next_entry text from → NextIs text from n
  unfolding next_entry
  next-is n q = rw q (by-line (next_line text from) refl)

-- ---- what the code needs of it

module _ (text : List ℕ) (from : ℕ) (a : Ahead) (q : read_ahead text from ≡ Some a) where
  -- The line was read along.
  pub next-ahead : next_at (a.end + 1) a.entry ≡ next_entry text from
  unfolding next_entry
  next-ahead =
      let r = ahead-is text from a q in
      let at-end : a.end ≡ from + end_of (drop from text) = r.0 in
      let l : Ends a.end (a.end + 1) ≡ next_line text from = next-found text from a.end at-end (omega (arith, at-end, r.1)) in
      let n : Ended text from a.end (a.end + 1) = next-ends text from a.end (a.end + 1) (sym l) in
      let e : a.entry ≡ read_entry (take (a.end - from) (drop from text)) =
      r.2 ∙ ap read_entry (sym (ended-line text from a.end (a.end + 1) n)) in
      ap (next_at (a.end + 1)) e ∙ ap (entry_at text from) l

-- It was not, and no newline is left.
pub next-none : (text : List ℕ) (from : ℕ) → next_line text from ≡ None → None ≡ next_entry text from
unfolding next_entry
next-none text from l = rw l

-- Its newline was looked for, and the line read.
pub next-read : (text : List ℕ) (from end on : ℕ) (e : Entry) → next_line text from ≡ Ends end on → e ≡ read_entry (take (end - from) (drop from text))
    → next_at on e ≡ next_entry text from
unfolding next_entry
next-read text from end on e l q = rw l (ap (next_at on) q)
