-- What is framed as a record is read back, wherever it stands in a recording; a recording of records is read back record by record.
-- Assumes nothing.
use Rattle.std.specs.Prelude.{◌≡◌, refl, true, List, [], ◌∷◌, ◌++◌, ℕ, suc, ◌+◌, ◌-◌, ◌*◌, ◌/◌, ◌%◌}
use Rattle.std.proofs.Common.{sym, ◌∙◌, append_assoc, le_refl}
use Rattle.std.proofs.Math.Path.{ap}
use native.Mathlib.Omega.{arith}
use Rattle.std.proofs.Math.ListN.{length, length-append}
use Rattle.std.proofs.Math.Seq.{drop-append_seam, get_or-append-add, get_or-append_seam}
use borrow.Author.Tests.{le-leb, lt-leb, le-ltb, eq-eqb}
use Rattle.crc.specs.CheckByte.{check_byte}
use Rattle.bus_wire.specs.Handed.{Handed, Word, Nothing}
use Rattle.bus_wire.specs.Records.{is_record, handed_at, handed_to}
use Rattle.bus_wire.specs.Framed.{five_of, record_of, recording, records_of, words_of}

-- ---- one record

module _ (front back : List ℕ) (c w : ℕ) where
  abbrev tail : List ℕ
  tail = record_of c w ++ back

  is-record : is_record (recording front back c w) (length front) ≡ true
  unfolding is_record
  is-record =
      rw (get_or-append_seam front 0x16 (c ∷ 0x17 ∷ w % 256 ∷ w / 256 ∷ check_byte (five_of c w) ∷ back) 0, get_or-append-add front tail 2 0, get_or-append-add front tail 5 0, drop-append_seam front tail)
      (eq-eqb (check_byte (five_of c w)) (check_byte (five_of c w)) refl)

  -- "Whatever is framed this way is read back as the same command and word."
  pub read-back : handed_at (recording front back c w) (length front) ≡ record { handed = Word c w; place = length front + 6 }
  unfolding handed_at
  read-back =
      let long : length (recording front back c w) ≡ length front + (6 + length back) = length-append front tail ∙ ap (λ (n : ℕ). length front + n) (length-append (record_of c w) back) in
      let halves : w % 256 + 256 * (w / 256) ≡ w = omega arith in
      rw (
        lt-leb (length (recording front back c w)) (length front) (omega (arith, long)),
        le-ltb (length (recording front back c w) - length front) 6 (omega (arith, long)),
        is-record,
        get_or-append-add front tail 1 0,
        get_or-append-add front tail 3 0,
        get_or-append-add front tail 4 0,
        halves,
      )

-- ---- records "end to end"

append-none : (l : List ℕ) → l ++ [] ≡ l
append-none [] = refl
append-none (b ∷ l) = ap (λ (m : List ℕ). b ∷ m) (append-none l)

one-turn : (b : List ℕ) (at m c w : ℕ) → handed_at b at ≡ record { handed = Word c w; place = at + 6 }
    → handed_to b at (suc m) ≡ Word c w ∷ handed_to b (at + 6) m
unfolding handed_to
one-turn b at m c w e = rw e

at-the-end : (b : List ℕ) → handed_to b (length b) 1 ≡ Nothing ∷ []
unfolding handed_to handed_at
at-the-end b = rw (le-leb (length b) (length b) (le_refl (length b)))

-- A reader hands out record after record, in order, and then what stands behind the last of them; whatever stands before and behind.
pub in-turn : (front : List ℕ) (xs : List (ℕ × ℕ)) (back : List ℕ) (k n : ℕ) → n ≡ length xs + k
    → handed_to (front ++ (records_of xs ++ back)) (length front) n
    ≡ words_of xs ++ handed_to (front ++ (records_of xs ++ back)) (length (front ++ records_of xs)) k
unfolding records_of
in-turn front [] back k n e = let same : n ≡ k = omega arith in rw (append-none front, same)
in-turn front (x ∷ xs) back k n e =
    let c : ℕ = x.0 in
    let w : ℕ = x.1 in
    let one : List ℕ = record_of c w in
    let more : n ≡ suc (length xs + k) = omega arith in
    let parted : front ++ ((one ++ records_of xs) ++ back) ≡ front ++ (one ++ (records_of xs ++ back)) = ap (λ (l : List ℕ). front ++ l) (append_assoc one (records_of xs) back) in
    let here = read-back front (records_of xs ++ back) c w in
    let far : length front + 6 ≡ length (front ++ one) = sym (length-append front one) in
    let later = in-turn (front ++ one) xs back k (length xs + k) refl in
    let joined : (front ++ one) ++ (records_of xs ++ back) ≡ front ++ (one ++ (records_of xs ++ back)) = append_assoc front one (records_of xs ++ back) in
    let end : (front ++ one) ++ records_of xs ≡ front ++ (one ++ records_of xs) = append_assoc front one (records_of xs) in
    rw (more, parted) (one-turn (front ++ (one ++ (records_of xs ++ back))) (length front) (length xs + k) c w here
    ∙ ap (λ (l : List Handed). Word c w ∷ l) (rw far (rw (joined, end) at later)))

-- "Records .. end to end": a recording of them is read back from its beginning, and then nothing is left.
pub records-in-turn : (xs : List (ℕ × ℕ)) → handed_to (records_of xs) 0 (length xs + 1) ≡ words_of xs ++ (Nothing ∷ [])
records-in-turn xs =
    let q = in-turn [] xs [] 1 (length xs + 1) refl in
    rw (append-none (records_of xs), at-the-end (records_of xs)) at q
