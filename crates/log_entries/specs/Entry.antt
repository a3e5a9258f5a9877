-- What a line of the log says, by its bytes: document 01, "The replay program". A line without its newline is a list of bytes.
-- Assumes nothing.
use Rattle.std.specs.Prelude.{ℕ, suc, Bool, false, cond, List, [], ◌∷◌, ltb, eqb, ℤ, length, set, replicate, Option, Some, None}
use Rattle.units.specs.declared.MilliVolts.{MilliVolts}
use Rattle.sample.specs.Cells.{no_volts}
use Rattle.sample.specs.declared.Sample.{Sample}
use Rattle.text_fields.specs.Finding.{lacks}
use Rattle.text_fields.specs.Fields.{fields_of}
use Rattle.text_numbers.specs.Numbers.{read_number, read_signed}
use Rattle.log_entries.specs.declared.Kind.{Kind}
use Rattle.log_entries.specs.declared.Kind.TheVariants.{Offer, Command, Malformed}
use Rattle.log_entries.specs.declared.Entry.{Entry}
use Rattle.log_entries.specs.declared.Entry.TheVariants as entry

-- ---- the three kinds of line, as values

abbrev pub malformed : Entry
malformed = entry.Malformed

abbrev pub command : ℕ → Entry
command c = entry.Command c

-- The first count entries of cells are the cells of the line, the first of them cell 1.
abbrev pub offer : ℤ → ℕ → ℕ → ℕ → List MilliVolts → Entry
offer current t1 t2 count cells =
    entry.Offer (record { count = count; cells = cells; current = current; t1 = record { 0 = t1 }; t2 = record { 0 = t2 } })

-- The line of a sample; where there is none, a malformed line.
abbrev pub entry_of : Option Sample → Entry
entry_of (Some s) = entry.Offer s
entry_of None = malformed

abbrev pub kind_of : Entry → Kind
kind_of (entry.Offer s) = Offer
kind_of (entry.Command c) = Command
kind_of entry.Malformed = Malformed

-- ---- fields

-- "A field that isn't such a number or is outside its range .. is malformed": every field but the current is 0..65535.
abbrev pub if_number : Option ℕ → (ℕ → Entry) → Entry
if_number (Some v) says = says v
if_number None says = malformed

-- "Only the current may have a minus": it is -32768..32767.
abbrev pub if_signed : Option ℤ → (ℤ → Entry) → Entry
if_signed (Some z) says = says z
if_signed None says = malformed

-- "`F` has the command", and any other count of fields is malformed.
unfoldable pub read_command : List (List ℕ) → Entry
read_command [] = malformed
read_command (f ∷ []) = if_number (read_number f) command
read_command (f ∷ g ∷ fs) = malformed

-- "`S` has current, temperature 1, temperature 2 and the cells": each field more is the next cell, behind the k before it. "More than 10
-- cells .. is malformed; an `S` line with no cell is not".
unfoldable pub cells_from : ℤ → ℕ → ℕ → ℕ → List MilliVolts → List (List ℕ) → Entry
cells_from current t1 t2 k cells [] = offer current t1 t2 k cells
cells_from current t1 t2 k cells (f ∷ fs) =
    cond (ltb k 10) (if_number (read_number f) (λ v. cells_from current t1 t2 (suc k) (set cells k (record { 0 = v })) fs)) malformed

-- Temperature 2, and then the cells, of which there is none yet.
unfoldable pub second_from : ℤ → ℕ → List (List ℕ) → Entry
second_from current t1 [] = malformed
second_from current t1 (f ∷ fs) = if_number (read_number f) (λ t2. cells_from current t1 t2 0 (replicate 10 no_volts) fs)

-- Temperature 1, and what follows it.
unfoldable pub first_from : ℤ → List (List ℕ) → Entry
first_from current [] = malformed
first_from current (f ∷ fs) = if_number (read_number f) (λ t1. second_from current t1 fs)

-- The current, and what follows it.
unfoldable pub read_sample : List (List ℕ) → Entry
read_sample [] = malformed
read_sample (f ∷ fs) = if_signed (read_signed f) (λ current. first_from current fs)

-- Whether a field is this one letter.
abbrev pub is_letter : ℕ → List ℕ → Bool
is_letter c [] = false
is_letter c (b ∷ []) = eqb b c
is_letter c (b ∷ d ∷ bs) = false

-- `F` is byte 70, `S` byte 83. "Any other first field .. is malformed", the empty line's empty field among them.
unfoldable pub fields_say : List (List ℕ) → Entry
fields_say [] = malformed
fields_say (f ∷ fs) = cond (is_letter 70 f) (read_command fs) (cond (is_letter 83 f) (read_sample fs) malformed)

-- ---- the line

-- "A carriage return .. or a line over 128 bytes (its newline not counted) is malformed"; a carriage return is byte 13.
unfoldable pub read_entry : List ℕ → Entry
read_entry line = cond (ltb 128 (length line)) malformed (cond (lacks 13 line) (fields_say (fields_of line)) malformed)
