-- An `S` line read along from a place of some bytes: what is found is the line that starts there; and the steps of the reader.
-- Assumes nothing.
use Prim.Native.Nat.{ℕ, suc, ◌+◌, ◌-◌, ◌<◌, ◌≤◌}
use Rattle.std.specs.Prelude.{◌≡◌, refl, Bool, ltb, eqb, set, Option, Some, None, is_none, unwrap_or}
use Rattle.std.proofs.Math.Path.{sym, ap}
use Rattle.std.proofs.Common.{◌∙◌, ⊎_elim, le_of_suc-le-suc, length-append, drop-cons, drop-drop, get_or-drop}
use Rattle.std.proofs.Math.Bool.{true, false}
use mathlib.Core.List.{List, [], ◌∷◌, ◌++◌}
use native.Mathlib.Omega.{arith}
use Rattle.std.proofs.Math.ListN.{length, drop, get_or, length-drop, drop_of_length-le}
use borrow.Author.Tests.{lt-ltb, le-ltb, ltb-true, eqb-true, eq-eqb, ne_eqb}
use Rattle.laws.specs.Tests.{by-test, by-order, clash, and-left, and-right}
use Rattle.text_fields.specs.Finding.{before, lacks, lacks-head, before-length, before-lacks}
use Rattle.text_fields.specs.Fields.{longer, fields_of}
use Rattle.text_numbers.specs.Numbers.{read_number}
use Rattle.text_numbers.specs.Signs.{has_minus, past_minus}
use Rattle.text_number_at.specs.Along.{field_along, end_along, number_along, four_tabbed, along-value, along-none, tabbed-tab, tabbed-along}
use Rattle.log_entries.specs.declared.Kind.{Kind}
use Rattle.log_entries.specs.declared.Kind.TheVariants.{Offer, Command, Malformed}
use Rattle.log_entries.specs.declared.Entry.{Entry}
use Rattle.log_entries.specs.declared.Ahead.{Ahead}
use Rattle.text_number_at.specs.NumberAt.{Found}
use Rattle.log_entries.specs.Entry.{kind_of, malformed, command, if_number, read_command, read_sample, read_entry}
use Rattle.log_entries.specs.Left.{left, left-some, left-next}
use Rattle.log_entries.proofs.Reading.{line-short, line-other, line-letter}
use Rattle.log_entries.specs.InTurn.{read_numbers, behind, NoCell}
use Rattle.log_entries.proofs.InTurn.{behind-over, behind-none, behind-next, sample-start}
use Rattle.log_entries.specs.Ahead.{rest_of, end_from, found_of, found_as, found_in, read_ahead, ahead_behind, starts_sample}

-- ---- nothing is found

module _ (bytes : List ℕ) (end : ℕ) (e : Entry) where
  pub nothing-said : found_as end e ≡ None → None ≡ found_in bytes end e
  nothing-said q = by-test (ltb end (length bytes)) (λ t. rw t (sym q)) (λ t. rw t)

  pub malformed-said : e ≡ malformed → None ≡ found_in bytes end e
  malformed-said q = nothing-said (ap (found_as end) q)

  pub not-ended : length bytes ≤ end → None ≡ found_in bytes end e
  not-ended h = rw (le-ltb end (length bytes) h)

-- ---- the first field of a line, up to its newline or to the tab behind it

ends-there : (x : List ℕ) → length (before 9 (before 10 x)) < length x → get_or x (length (before 9 (before 10 x))) 0 ≡ 10
    → before 10 x ≡ before 9 (before 10 x)
unfolding before
ends-there [] h e = refl
ends-there (b ∷ x) h e =
    by-test (eqb b 10)
    (λ t. rw t)
    (λ t.
    by-test (eqb b 9)
    (λ u. let z : b ≡ 10 = rw (t, u) at e in let y = eqb-true b 9 u in absurd (omega arith))
    (λ u. rw (t, u) (ap (λ (l : List ℕ). b ∷ l) (ends-there x (le_of_suc-le-suc (rw (t, u) at h)) (rw (t, u) at e)))))

goes-on : (x : List ℕ) → length (before 9 (before 10 x)) < length x → (get_or x (length (before 9 (before 10 x))) 0 ≡ 10 → ⊥)
    → before 10 x ≡ before 9 (before 10 x) ++ (9 ∷ before 10 (drop (suc (length (before 9 (before 10 x)))) x))
unfolding before
goes-on [] h n = absurd (omega arith)
goes-on (b ∷ x) h n =
    by-test (eqb b 10)
    (λ t. absurd ((rw t at n) (eqb-true b 10 t)))
    (λ t.
    by-test (eqb b 9)
    (λ u. rw (t, u) (ap (λ (c : ℕ). c ∷ before 10 x) (eqb-true b 9 u)))
    (λ u. rw (t, u) (ap (λ (l : List ℕ). b ∷ l) (goes-on x (le_of_suc-le-suc (rw (t, u) at h)) (rw (t, u) at n)))))

alone : (f : List ℕ) → lacks 9 f ≡ true → fields_of f ≡ f ∷ []
unfolding fields_of
alone [] p = refl
alone (b ∷ f) p = let q = lacks-head 9 b f p in rw q.0 (ap (longer b) (alone f q.1))

parted : (f more : List ℕ) → lacks 9 f ≡ true → fields_of (f ++ (9 ∷ more)) ≡ f ∷ fields_of more
unfolding fields_of
parted [] more p = refl
parted (b ∷ f) more p = let q = lacks-head 9 b f p in rw q.0 (ap (longer b) (parted f more q.1))

-- There is always a first one.
some-field : (x : List ℕ) → fields_of x ≡ before 9 x ∷ left x (0 + length (before 9 x) + 1)
some-field x = sym (left-some x 0 (omega arith)) ∙ left-next x 0 (before 9 x) refl (omega arith)

-- ---- one number more

module _ (bytes : List ℕ) (at : ℕ) (below : Bool) (k : ℕ) (numbers : List ℕ) where
  pub ahead-over : 13 ≤ k → None ≡ ahead_behind below k numbers bytes at
  ahead-over h =
      malformed-said bytes (end_from bytes at) (behind below k numbers (fields_of (rest_of bytes at)))
      (ap (behind below k numbers) (some-field (rest_of bytes at)) ∙ behind-over below _ _ k numbers h)

  pub ahead-none : k < 13 → number_along bytes at ≡ None → None ≡ ahead_behind below k numbers bytes at
  ahead-none h q =
      ⊎_elim
      (λ e. malformed-said bytes (end_from bytes at) (behind below k numbers (fields_of (rest_of bytes at))) (ap (behind below k numbers) (some-field (rest_of bytes at)) ∙ behind-none below _ _ k numbers h e))
      (λ l. not-ended bytes (end_from bytes at) (behind below k numbers (fields_of (rest_of bytes at))) (let m = before-length 9 (rest_of bytes at) in omega arith))
      (along-none bytes at q)

  -- The number v was read, and its field ends at e.
  module _ (v e : ℕ) (h : k < 13) (l : length numbers ≡ 13) (n : NoCell k numbers) (q : number_along bytes at ≡ Found v e) where
    read : (read_number (field_along bytes at) ≡ Some v) × (e ≡ end_along bytes at) × (e < length bytes)
    read = along-value bytes at v e q

    there : length (before 9 (before 10 (drop at bytes))) < length (drop at bytes)
    there = let d = length-drop at bytes in omega (arith, read.1, read.2)

    byte : get_or (drop at bytes) (length (before 9 (before 10 (drop at bytes)))) 0 ≡ get_or bytes e 0
    byte = get_or-drop at bytes (length (field_along bytes at)) 0 ∙ ap (λ (j : ℕ). get_or bytes j 0) (sym read.1)

    -- The newline stands behind it.
    pub ahead-last : get_or bytes e 0 ≡ 10 → found_as e (behind below (k + 1) (set numbers k v) []) ≡ ahead_behind below k numbers bytes at
    ahead-last z =
        let r : rest_of bytes at ≡ field_along bytes at = ends-there (drop at bytes) there (byte ∙ z) in
        let s = behind-next below (field_along bytes at) [] k v numbers h l n read.0 in
        let d : fields_of (rest_of bytes at) ≡ field_along bytes at ∷ [] = ap fields_of r ∙ alone (field_along bytes at) (before-lacks 9 (rest_of bytes at)) in
        let w : end_from bytes at ≡ e = ap (λ (x : List ℕ). at + length x) r ∙ sym read.1 in
        sym
        (ap (λ (j : ℕ). found_in bytes j (behind below k numbers (fields_of (rest_of bytes at)))) w
        ∙ ap (λ (fs : List (List ℕ)). found_in bytes e (behind below k numbers fs)) d
        ∙ ap (found_in bytes e) s.0
        ∙ rw (lt-ltb e (length bytes) read.2))

    -- Or a tab does.
    pub ahead-next : (get_or bytes e 0 ≡ 10 → ⊥)
        → (ahead_behind below (k + 1) (set numbers k v) bytes (e + 1) ≡ ahead_behind below k numbers bytes at) × NoCell (k + 1) (set numbers k v)
    ahead-next z =
        let place : at + suc (length (field_along bytes at)) ≡ e + 1 = let a = read.1 in omega (arith, a) in
        let on : drop (suc (length (field_along bytes at))) (drop at bytes) ≡ drop (e + 1) bytes =
        drop-drop (suc (length (field_along bytes at))) at bytes ∙ ap (λ (j : ℕ). drop j bytes) place in
        let r : rest_of bytes at ≡ field_along bytes at ++ (9 ∷ rest_of bytes (e + 1)) =
        goes-on (drop at bytes) there (λ y. z (sym byte ∙ y)) ∙ ap (λ (x : List ℕ). field_along bytes at ++ (9 ∷ before 10 x)) on in
        let s = behind-next below (field_along bytes at) (fields_of (rest_of bytes (e + 1))) k v numbers h l n read.0 in
        let d : fields_of (rest_of bytes at) ≡ field_along bytes at ∷ fields_of (rest_of bytes (e + 1)) =
        ap fields_of r ∙ parted (field_along bytes at) (rest_of bytes (e + 1)) (before-lacks 9 (rest_of bytes at)) in
        let m : length (rest_of bytes at) ≡ length (field_along bytes at) + suc (length (rest_of bytes (e + 1))) =
        ap length r ∙ length-append (field_along bytes at) (9 ∷ rest_of bytes (e + 1)) in
        let w : end_from bytes at ≡ end_from bytes (e + 1) = let a = read.1 in omega (arith, m, a) in (
          sym
              (ap (λ (j : ℕ). found_in bytes j (behind below k numbers (fields_of (rest_of bytes at)))) w
              ∙ ap (λ (fs : List (List ℕ)). found_in bytes (end_from bytes (e + 1)) (behind below k numbers fs)) d
              ∙ ap (found_in bytes (end_from bytes (e + 1))) s.0),
          s.1,
        )

  -- Four digits and a tab were read at once.
  module _ (h : k < 13) (l : length numbers ≡ 13) (n : NoCell k numbers) (b : (i : ℕ) → get_or bytes i 0 < 256) where
    pub ahead-four : (v : ℕ) → four_tabbed bytes at ≡ Some v
        → (ahead_behind below (k + 1) (set numbers k v) bytes (at + 5) ≡ ahead_behind below k numbers bytes at)
        × NoCell (k + 1) (set numbers k v)
    ahead-four v e =
        let tab = tabbed-tab bytes at v e in
        let place : at + 5 ≡ at + 4 + 1 = omega arith in
        rw place (ahead-next v (at + 4) h l n (tabbed-along bytes at v e b) (λ z. omega arith))

-- ---- the start of the line

number-nothing : (n : Option ℕ) (end : ℕ) → found_as end (if_number n command) ≡ None
number-nothing (Some v) end = refl
number-nothing None end = refl

command-nothing : (fs : List (List ℕ)) (end : ℕ) → found_as end (read_command fs) ≡ None
unfolding read_command
command-nothing [] end = refl
command-nothing (f ∷ []) end = number-nothing (read_number f) end
command-nothing (f ∷ g ∷ fs) end = refl

-- A line of two bytes at least that does not start with `S` and a tab.
other-letter : (a b : ℕ) (y : List ℕ) (end : ℕ) → (a ≡ 83 → ⊥) → found_as end (read_entry (before 10 (a ∷ b ∷ y))) ≡ None
unfolding before
other-letter a b y end n =
    by-test (eqb a 10)
    (λ t. rw t (ap (found_as end) (line-short [] (omega arith))))
    (λ t. rw t
    (by-test (eqb b 10)
    (λ u. rw u (ap (found_as end) (line-short (a ∷ []) (omega arith))))
    (λ u. rw u
    (by-test (eqb b 9)
    (λ w.
    ap (found_as end) (line-letter (a ∷ b ∷ before 10 y) (omega arith) (eqb-true b 9 w))
    ∙ rw (ne_eqb a 83 n)
    (by-test (eqb a 70) (λ x. rw x (command-nothing (left (a ∷ b ∷ before 10 y) 2) end)) (λ x. rw x)))
    (λ w.
    ap (found_as end)
    (line-other (a ∷ b ∷ before 10 y) (omega arith) (λ z. clash (eq-eqb b 9 z) w)))))))

no-tab-behind : (a b : ℕ) (y : List ℕ) (end : ℕ) → (b ≡ 9 → ⊥) → found_as end (read_entry (before 10 (a ∷ b ∷ y))) ≡ None
unfolding before
no-tab-behind a b y end n =
    by-test (eqb a 10)
    (λ t. rw t (ap (found_as end) (line-short [] (omega arith))))
    (λ t. rw t
    (by-test (eqb b 10)
    (λ u. rw u (ap (found_as end) (line-short (a ∷ []) (omega arith))))
    (λ u. rw u (ap (found_as end) (line-other (a ∷ b ∷ before 10 y) (omega arith) n)))))

letter-and-tab : (y : List ℕ) → read_entry (before 10 (83 ∷ 9 ∷ y)) ≡ read_sample (fields_of (before 10 y))
unfolding before
letter-and-tab y =
    line-letter (83 ∷ 9 ∷ before 10 y) (omega arith) refl ∙ ap read_sample (left-some (83 ∷ 9 ∷ before 10 y) 2 (omega arith))

module _ (bytes : List ℕ) (from : ℕ) where
  pub start-short : length bytes - from < 2 → None ≡ read_ahead bytes from
  unfolding read_ahead
  start-short h =
      malformed-said bytes (end_from bytes from) (read_entry (rest_of bytes from))
      (line-short (rest_of bytes from) (let b = before-length 10 (drop from bytes) in let d = length-drop from bytes in omega arith))

  module _ (h : from + 2 ≤ length bytes) where
    two : drop from bytes ≡ get_or bytes from 0 ∷ get_or bytes (from + 1) 0 ∷ drop (from + 2) bytes
    two =
        let a : suc from ≡ from + 1 = omega arith in
        let b : suc (from + 1) ≡ from + 2 = omega arith in
        drop-cons bytes from 0 (omega arith)
        ∙ ap (λ (x : List ℕ). get_or bytes from 0 ∷ x)
        (ap (λ (j : ℕ). drop j bytes) a
        ∙ drop-cons bytes (from + 1) 0 (omega arith)
        ∙ ap (λ (j : ℕ). get_or bytes (from + 1) 0 ∷ drop j bytes) b)

    start-other : (get_or bytes from 0 ≡ 83 → ⊥) → None ≡ read_ahead bytes from
    unfolding read_ahead
    start-other n =
        nothing-said bytes (end_from bytes from) (read_entry (rest_of bytes from))
        (ap (λ (x : List ℕ). found_as (end_from bytes from) (read_entry (before 10 x))) two ∙ other-letter _ _ _ (end_from bytes from) n)

    start-no-tab : (get_or bytes (from + 1) 0 ≡ 9 → ⊥) → None ≡ read_ahead bytes from
    unfolding read_ahead
    start-no-tab n =
        nothing-said bytes (end_from bytes from) (read_entry (rest_of bytes from))
        (ap (λ (x : List ℕ). found_as (end_from bytes from) (read_entry (before 10 x))) two ∙ no-tab-behind _ _ _ (end_from bytes from) n)

    pub start-not : starts_sample bytes from ≡ false → None ≡ read_ahead bytes from
    start-not e =
        by-test (eqb (get_or bytes from 0) 83)
        (λ s. start-no-tab (λ q. clash (eq-eqb (get_or bytes (from + 1) 0) 9 q) (rw s at e)))
        (λ s. start-other (λ q. clash (eq-eqb (get_or bytes from 0) 83 q) s))

    sample-starts : get_or bytes from 0 ≡ 83 → get_or bytes (from + 1) 0 ≡ 9
        → found_in bytes (end_from bytes (from + 2)) (read_sample (fields_of (rest_of bytes (from + 2)))) ≡ read_ahead bytes from
    unfolding read_ahead before
    sample-starts s t =
        let x : drop from bytes ≡ 83 ∷ 9 ∷ drop (from + 2) bytes =
        two ∙ ap (λ (a : ℕ). a ∷ get_or bytes (from + 1) 0 ∷ drop (from + 2) bytes) s ∙ ap (λ (b : ℕ). 83 ∷ b ∷ drop (from + 2) bytes) t in
        let m : length (rest_of bytes from) ≡ suc (suc (length (rest_of bytes (from + 2)))) = ap (λ (z : List ℕ). length (before 10 z)) x in
        let w : end_from bytes from ≡ end_from bytes (from + 2) = omega (arith, m) in
        sym
        (ap (λ (j : ℕ). found_in bytes j (read_entry (rest_of bytes from))) w
        ∙ ap (λ (z : List ℕ). found_in bytes (end_from bytes (from + 2)) (read_entry (before 10 z))) x
        ∙ ap (found_in bytes (end_from bytes (from + 2))) (letter-and-tab (drop (from + 2) bytes)))

    pub start-sample : starts_sample bytes from ≡ true
        → found_in bytes (end_from bytes (from + 2)) (read_sample (fields_of (rest_of bytes (from + 2)))) ≡ read_ahead bytes from
    start-sample e =
        sample-starts (eqb-true (get_or bytes from 0) 83 (and-left _ _ e)) (eqb-true (get_or bytes (from + 1) 0) 9 (and-right (eqb (get_or bytes from 0) 83) _ e))

-- ---- the minus

first-minus : (b : ℕ) (x : List ℕ) → has_minus (before 10 (b ∷ x)) 0 ≡ eqb b 45
unfolding before
first-minus b x =
    by-test (eqb b 10)
    (λ t. rw (t, eqb-true b 10 t))
    (λ t.
    let kept : before 10 (b ∷ x) ≡ b ∷ before 10 x = rw t in
    ap (λ (y : List ℕ). has_minus y 0) kept ∙ rw (lt-ltb 0 (suc (length (before 10 x))) (omega arith)))

module _ (bytes : List ℕ) (at : ℕ) where
  same-minus : has_minus (rest_of bytes at) 0 ≡ has_minus bytes at
  unfolding before
  same-minus =
      by-order at (length bytes)
      (λ h.
      rw (lt-ltb at (length bytes) h)
      (ap (λ (x : List ℕ). has_minus (before 10 x) 0) (drop-cons bytes at 0 h) ∙ first-minus (get_or bytes at 0) (drop (suc at) bytes)))
      (λ h. rw (le-ltb at (length bytes) h, drop_of_length-le bytes h))

  behind-minus : has_minus bytes at ≡ true → rest_of bytes at ≡ 45 ∷ rest_of bytes (at + 1)
  unfolding before
  behind-minus t =
      let h = ltb-true at (length bytes) (and-left _ _ t) in
      let e = eqb-true (get_or bytes at 0) 45 (and-right (ltb at (length bytes)) _ t) in
      let k : suc at ≡ at + 1 = omega arith in
      rw (drop-cons bytes at 0 h, e) (ap (λ (j : ℕ). 45 ∷ before 10 (drop j bytes)) k)

  pub sample-ahead : found_in bytes (end_from bytes (past_minus bytes at)) (read_numbers (ltb at (past_minus bytes at)) (fields_of (rest_of bytes (past_minus bytes at))))
      ≡ found_in bytes (end_from bytes at) (read_sample (fields_of (rest_of bytes at)))
  unfolding past_minus
  sample-ahead =
      by-test (has_minus bytes at)
      (λ t.
      let r = behind-minus t in
      let m : length (rest_of bytes at) ≡ suc (length (rest_of bytes (at + 1))) = ap length r in
      let w : end_from bytes at ≡ end_from bytes (at + 1) = omega (arith, m) in
      let d : read_sample (fields_of (rest_of bytes at)) ≡ read_numbers true (fields_of (rest_of bytes (at + 1))) =
      started ∙ rw (same-minus, t) (ap (read_numbers true) (left-some (rest_of bytes at) 1 (omega arith) ∙ ap (λ (x : List ℕ). fields_of (drop 1 x)) r)) in
      rw (t, lt-ltb at (at + 1) (omega arith))
      (sym (ap (λ (j : ℕ). found_in bytes j (read_sample (fields_of (rest_of bytes at)))) w ∙ ap (found_in bytes (end_from bytes (at + 1))) d)))
      (λ t.
      let d : read_sample (fields_of (rest_of bytes at)) ≡ read_numbers false (fields_of (rest_of bytes at)) =
      started ∙ rw (same-minus, t) (ap (read_numbers false) (left-some (rest_of bytes at) 0 (omega arith))) in
      rw (t, le-ltb at at (omega arith)) (sym (ap (found_in bytes (end_from bytes at)) d)))
    where
      started : read_sample (fields_of (rest_of bytes at))
          ≡ read_numbers (ltb 0 (past_minus (rest_of bytes at) 0)) (left (rest_of bytes at) (past_minus (rest_of bytes at) 0))
      started = ap read_sample (sym (left-some (rest_of bytes at) 0 (omega arith))) ∙ sample-start (rest_of bytes at) 0

-- ---- what was found

found-is : (k : Kind) (end : ℕ) (e : Entry) (a : Ahead) → found_of k end e ≡ Some a → (a.end ≡ end) × (a.entry ≡ e)
found-is Offer end e a q =
    let r : record { end = end; entry = e } ≡ a = ap (λ (o : Option Ahead). unwrap_or o a) q in
    (sym (ap (λ (x : Ahead). x.end) r), sym (ap (λ (x : Ahead). x.entry) r))
found-is Command end e a q = clash refl (ap is_none q)
found-is Malformed end e a q = clash refl (ap is_none q)

-- It is the line that starts there: its newline is the next one, and it says what the line says.
pub ahead-is : (bytes : List ℕ) (from : ℕ) (a : Ahead) → read_ahead bytes from ≡ Some a
    → (a.end ≡ end_from bytes from) × (end_from bytes from < length bytes) × (a.entry ≡ read_entry (rest_of bytes from))
unfolding read_ahead
ahead-is bytes from a q =
    by-test (ltb (end_from bytes from) (length bytes))
    (λ t.
    let r = found-is (kind_of (read_entry (rest_of bytes from))) (end_from bytes from) (read_entry (rest_of bytes from)) a (rw t at q) in
    (r.0, ltb-true (end_from bytes from) (length bytes) t, r.1))
    (λ t. clash refl (ap is_none (rw t at q)))
