-- "`F` has the command; `S` has current, temperature 1, temperature 2 and the cells": fields that are the texts of numbers in range are read as these
-- numbers, whichever they are. There is no other reason to call them malformed.
-- Assumes nothing.
use Rattle.std.specs.Prelude.{◌≡◌, List, [], ◌∷◌, map, ℕ, suc, ◌+◌, ◌≤◌, ℤ, length, replicate, set}
use Rattle.std.proofs.Common.{ap, ◌∙◌, arith, lt-ltb}
use Rattle.units.specs.declared.MilliVolts.{MilliVolts}
use Rattle.sample.specs.Cells.{no_volts}
use Rattle.text_fields.specs.Decimal.{decimal}
use Rattle.text_numbers.specs.Numbers.{signed_text}
use Rattle.text_numbers.specs.Canonical.{InRange, number-read, signed-read}
use Rattle.log_entries.specs.Entry.{offer, command, read_command, cells_from, second_from, first_from, read_sample, fields_say}

abbrev pub Words : List ℕ → Type 0
Words [] = Unit {0}
Words (v ∷ vs) = (v ≤ 65535) × Words vs

-- The array with these in the places from k on.
abbrev pub placed : List MilliVolts → ℕ → List ℕ → List MilliVolts
placed cells k [] = cells
placed cells k (v ∷ vs) = placed (set cells k (record { 0 = v })) (suc k) vs

cells-read : (current : ℤ) (t1 t2 k : ℕ) (cells : List MilliVolts) (vs : List ℕ) → Words vs → k + length vs ≤ 10
    → cells_from current t1 t2 k cells (map decimal vs) ≡ offer current t1 t2 (k + length vs) (placed cells k vs)
unfolding cells_from
cells-read current t1 t2 k cells [] w h = ap (λ (n : ℕ). offer current t1 t2 n cells) (omega arith)
cells-read current t1 t2 k cells (v ∷ vs) w h =
    rw (lt-ltb k 10 (omega arith), number-read 65535 v w.0)
    (cells-read current t1 t2 (suc k) (set cells k (record { 0 = v })) vs w.1 (omega arith)
    ∙ ap (λ (n : ℕ). offer current t1 t2 n (placed cells k (v ∷ vs))) (omega arith))

pub sample-said : (current : ℤ) (t1 t2 : ℕ) (vs : List ℕ) → InRange current → t1 ≤ 65535 → t2 ≤ 65535 → Words vs → length vs ≤ 10
    → fields_say ((83 ∷ []) ∷ signed_text current ∷ decimal t1 ∷ decimal t2 ∷ map decimal vs)
    ≡ offer current t1 t2 (length vs) (placed (replicate 10 no_volts) 0 vs)
unfolding fields_say read_sample first_from second_from
sample-said current t1 t2 vs c a b w h =
    rw (signed-read current c, number-read 65535 t1 a, number-read 65535 t2 b)
    (cells-read current t1 t2 0 (replicate 10 no_volts) vs w (omega arith)
    ∙ ap (λ (n : ℕ). offer current t1 t2 n (placed (replicate 10 no_volts) 0 vs)) (omega arith))

pub command-said : (c : ℕ) → c ≤ 65535 → fields_say ((70 ∷ []) ∷ decimal c ∷ []) ≡ command c
unfolding fields_say read_command
command-said c h = rw (number-read 65535 c h)
