-- A reader refuses, and says that nothing is left, exactly where document 02 says so; its place then stays put.
-- Assumes nothing.
use Rattle.std.specs.Prelude.{◌≡◌, refl, Bool, true, false, ◌&&◌, List, ℕ, ◌+◌, ◌-◌, ◌*◌, ◌≤◌, ◌<◌, leb, ltb, eqb, take, drop, Some, None, Ok, Err}
use Rattle.std.proofs.Common.{sym, ap, true≢false, inl}
use Rattle.std.proofs.Math.Logic.{inr, ⊎_elim}
use native.Mathlib.Omega.{arith}
use Rattle.std.proofs.Math.ListN.{length, get_or}
use borrow.Author.Tests.{leb-true, leb-false, ltb-true, ltb-false, eqb-true, eqb-false}
use Rattle.laws.specs.Tests.{by-test, clash}
use Rattle.crc.specs.CheckByte.{check_byte}
use Rattle.bus_wire.specs.Handed.{Handed, Word, Refused, Nothing}
use Rattle.bus_wire.specs.Records.{no_record, is_record, handed_at}
use Rattle.bus_wire.specs.Exactly.{Wrong, Turned}

-- What is handed out has one of three kinds.
abbrev kind_of : Handed → ℕ
kind_of (Some (Ok r)) = 0
kind_of (Some (Err k)) = 1
kind_of None = 2

not-kind : {X : Type 0} (h g : Handed) → h ≡ g → (kind_of h ≡ kind_of g → ⊥) → X
not-kind h g e n = absurd (n (ap kind_of e))

abbrev number_in : Handed → ℕ
number_in (Some (Ok r)) = 0
number_in (Some (Err k)) = k
number_in None = 0

all-three : (a b c : Bool) → a && b && c ≡ true → (a ≡ true) × (b ≡ true) × (c ≡ true)
all-three true true c r = (refl, refl, r)
all-three true false c r = absurd (true≢false (sym r))
all-three false b c r = absurd (true≢false (sym r))

module _ (b : List ℕ) (at : ℕ) where
  -- The three tests of a record.
  record-wrong : is_record b at ≡ false → Wrong b at
  unfolding is_record
  record-wrong e =
      by-test (eqb (get_or b at 0) 0x16)
      (λ s. by-test (eqb (get_or b (at + 2) 0) 0x17)
      (λ t. by-test (eqb (get_or b (at + 5) 0) (check_byte (take 5 (drop at b))))
      (λ u. clash (rw (s, t, u)) e)
      (λ u. inr (inr (inr (eqb-false (get_or b (at + 5) 0) (check_byte (take 5 (drop at b))) u)))))
      (λ t. inr (inr (inl (eqb-false (get_or b (at + 2) 0) 0x17 t)))))
      (λ s. inr (inl (eqb-false (get_or b at 0) 0x16 s)))

  record-right : is_record b at ≡ true → at + 6 ≤ length b → Wrong b at → ⊥
  unfolding is_record
  record-right e long w =
      let q = all-three (eqb (get_or b at 0) 0x16) (eqb (get_or b (at + 2) 0) 0x17) (eqb (get_or b (at + 5) 0) (check_byte (take 5 (drop at b)))) e in
      ⊎_elim
      (λ (short : length b < at + 6). absurd (omega arith))
      (⊎_elim
      (λ (n : get_or b at 0 ≡ 0x16 → ⊥). n (eqb-true (get_or b at 0) 0x16 q.0))
      (⊎_elim
      (λ (n : get_or b (at + 2) 0 ≡ 0x17 → ⊥). n (eqb-true (get_or b (at + 2) 0) 0x17 q.1))
      (λ (n : get_or b (at + 5) 0 ≡ check_byte (take 5 (drop at b)) → ⊥). n (eqb-true (get_or b (at + 5) 0) (check_byte (take 5 (drop at b))) q.2))))
      w

  is-nothing : handed_at b at ≡ record { handed = Nothing; place = at } → length b ≤ at → Turned b at
  is-nothing e h =
      record {
        nothing = (λ q. h, λ q. rw e);
        refused = (λ q. not-kind Nothing (Refused 18) (rw e at q) (λ z. omega arith), λ q. let less = q.0 in absurd (omega arith));
        number = λ k q. not-kind Nothing (Refused k) (rw e at q) (λ z. omega arith);
        stays = λ q. rw e;
        goes = λ c w q. not-kind Nothing (Word c w) (rw e at q) (λ z. omega arith);
      }

  is-refused : handed_at b at ≡ no_record at → at < length b → Wrong b at → Turned b at
  is-refused e h w =
      record {
        nothing = (λ q. not-kind (Refused 18) Nothing (rw e at q) (λ z. omega arith), λ q. absurd (omega arith));
        refused = (λ q. (h, w), λ q. rw e);
        number = λ k q. sym (ap number_in (rw e at q));
        stays = λ q. rw e;
        goes = λ c w q. not-kind (Refused 18) (Word c w) (rw e at q) (λ z. omega arith);
      }

  is-word : (c w : ℕ) → handed_at b at ≡ record { handed = Word c w; place = at + 6 } → is_record b at ≡ true → at + 6 ≤ length b → Turned b at
  is-word c w e r long =
      record {
        nothing = (λ q. not-kind (Word c w) Nothing (rw e at q) (λ z. omega arith), λ q. absurd (omega arith));
        refused = (λ q. not-kind (Word c w) (Refused 18) (rw e at q) (λ z. omega arith), λ q. absurd (record-right r long q.1));
        number = λ k q. not-kind (Word c w) (Refused k) (rw e at q) (λ z. omega arith);
        stays = λ q. absurd (q c w (rw e));
        goes = λ d v q. rw e;
      }

  pub turned : Turned b at
  unfolding handed_at
  turned =
      by-test (leb (length b) at)
      (λ t. is-nothing (rw t) (leb-true (length b) at t))
      (λ t. let some : at < length b = leb-false (length b) at t in
      by-test (ltb (length b - at) 6)
      (λ u. is-refused (rw (t, u)) some (inl (let h = ltb-true (length b - at) 6 u in omega arith)))
      (λ u. let long : at + 6 ≤ length b = let h = ltb-false (length b - at) 6 u in omega arith in
      by-test (is_record b at)
      (λ s. is-word (get_or b (at + 1) 0) (get_or b (at + 3) 0 + 256 * get_or b (at + 4) 0) (rw (t, u, s)) s long)
      (λ s. is-refused (rw (t, u, s)) some (record-wrong s))))
