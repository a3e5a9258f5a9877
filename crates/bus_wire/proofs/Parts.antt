-- A recording that is read part by part: what a reader hands out in a part is what it hands out in the whole, that much further on.
-- Assumes nothing.
use Rattle.std.specs.Prelude.{◌≡◌, refl, List, ◌++◌, ℕ, ◌+◌, ◌-◌, ◌≤◌, ◌<◌, leb, ltb, length, get_or, take, drop}
use Rattle.std.proofs.Common.{sym, ap, ◌∙◌, length-append, length-drop, get_or-append-add, le-leb, le-ltb, leb-true}
use native.Mathlib.Omega.{arith}
use Rattle.std.proofs.Math.ListN.{get_or-append}
use Rattle.std.proofs.Math.Seq.{drop-append-add}
use Rattle.std.proofs.lemmas.List.{drop-append-le, take-append-le}
use Rattle.std.proofs.lemmas.Bool.{lt-leb}
use Rattle.laws.specs.Tests.{by-test, test-ext}
use Rattle.bus_wire.specs.declared.Turn.{Turn}
use Rattle.bus_wire.specs.Records.{is_record, handed_at}
use Rattle.bus_wire.specs.Parts.{on_by}

-- What the definitions read of a recording at a place: whether six bytes are left, or any, and which they are.
record Read (a b : List ℕ) (i j : ℕ) : Type 0 where
  none : leb (length a) i ≡ leb (length b) j
  few : ltb (length a - i) 6 ≡ ltb (length b - j) 6
  byte : (k : ℕ) → k < 6 → get_or a (i + k) 0 ≡ get_or b (j + k) 0
  five : take 5 (drop i a) ≡ take 5 (drop j b)

module _ (a b : List ℕ) (i j : ℕ) (r : Read a b i j) where
  at-zero : get_or a i 0 ≡ get_or b j 0
  at-zero = let x : i + 0 ≡ i = omega arith in let y : j + 0 ≡ j = omega arith in rw (x, y) at (r.byte 0 (omega arith))

  same-record : is_record a i ≡ is_record b j
  unfolding is_record
  same-record = rw (at-zero, r.byte 2 (omega arith), r.byte 5 (omega arith), r.five)

  same-turn : (d : ℕ) → i ≡ d + j → handed_at a i ≡ on_by d (handed_at b j)
  unfolding handed_at
  same-turn d e =
      let six : d + (j + 6) ≡ i + 6 = omega arith in
      by-test (leb (length b) j)
      (λ t. rw (r.none, t, e))
      (λ t. by-test (ltb (length b - j) 6)
      (λ u. rw (r.none, t, r.few, u, e))
      (λ u. by-test (is_record b j)
      (λ v. rw (r.none, t, r.few, u, same-record, v, r.byte 1 (omega arith), r.byte 3 (omega arith), r.byte 4 (omega arith), six))
      (λ v. rw (r.none, t, r.few, u, same-record, v, e))))

-- What stands in front of a part only moves the place.
pub front-on : (front b : List ℕ) (at : ℕ) → handed_at (front ++ b) (length front + at) ≡ on_by (length front) (handed_at b at)
front-on front b at =
    same-turn (front ++ b) b (length front + at) at
    (record {
      none = test-ext (leb (length (front ++ b)) (length front + at)) (leb (length b) at)
          (λ t. le-leb (length b) at (let h = leb-true (length (front ++ b)) (length front + at) t in omega (arith, length-append front b)))
          (λ t. le-leb (length (front ++ b)) (length front + at) (let h = leb-true (length b) at t in omega (arith, length-append front b)));
      few = let left : length (front ++ b) - (length front + at) ≡ length b - at = omega (arith, length-append front b) in ap (λ (n : ℕ). ltb n 6) left;
      byte = λ k h. let e : length front + at + k ≡ length front + (at + k) = omega arith in rw e (get_or-append-add front b (at + k) 0);
      five = ap (take 5) (drop-append-add front b at);
    })
    (length front) refl

-- What stands behind a part is not looked at where six bytes of it are left.
pub back-off : (b back : List ℕ) (at : ℕ) → at + 6 ≤ length b → handed_at (b ++ back) at ≡ handed_at b at
back-off b back at long =
    same-turn (b ++ back) b at at
    (record {
      none = lt-leb (length (b ++ back)) at (omega (arith, length-append b back)) ∙ sym (lt-leb (length b) at (omega arith));
      few = le-ltb (length (b ++ back) - at) 6 (omega (arith, length-append b back)) ∙ sym (le-ltb (length b - at) 6 (omega arith));
      byte = λ k h. get_or-append b back 0 (at + k) (omega arith);
      five = ap (take 5) (drop-append-le at b back (omega arith)) ∙ take-append-le 5 (drop at b) back (omega (arith, length-drop at b));
    })
    0 (omega arith)
    ∙ zero-on (handed_at b at)
  where
    zero-on : (t : Turn) → on_by 0 t ≡ t
    zero-on t = let e : 0 + t.place ≡ t.place = omega arith in ap (λ (n : ℕ). record { handed = t.handed; place = n }) e

-- A part that stands in a recording: where six bytes of it are left, or nothing stands behind it, it is read as the whole is.
pub part-is : (front b back : List ℕ) (at : ℕ) → at + 6 ≤ length b
    → handed_at (front ++ (b ++ back)) (length front + at) ≡ on_by (length front) (handed_at b at)
part-is front b back at long = front-on front (b ++ back) at ∙ ap (on_by (length front)) (back-off b back at long)
