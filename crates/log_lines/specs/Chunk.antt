-- A chunk of log: whole lines answered into a lent buffer, until no newline is left or the room for one more answer is gone.
use Prim.Native.Nat.{ℕ, suc, ◌+◌, ◌-◌, ◌<◌, ◌≤◌}
use Rattle.std.specs.Prelude.{◌≡◌, refl, Bool, true, false, cond, ltb}
use Rattle.std.proofs.Math.Path.{sym, ap, ap₂}
use Rattle.std.proofs.Common.{◌∙◌, subst, true≢false, take-append-drop}
use mathlib.Core.List.{List, [], ◌∷◌, ◌++◌}
use native.Mathlib.Omega.{arith}
use Rattle.std.proofs.Math.ListN.{length, take, drop, length-drop}
use Rattle.std.proofs.Math.Seq.{drop-drop, length-take-le}
use borrow.Author.Tests.{lt-ltb, le-ltb}
use Rattle.text_fields.specs.Finding.{before}
use Rattle.text_writing.specs.Placing.{Put}
use Rattle.text_writing.specs.Putting.{put-place, put-length, put-front, put-rest}
use Rattle.log_lines.specs.Lines.{plain, end_of}
use Rattle.log_lines.specs.Walking.{whole, whole-none, whole-left, not-plain, Ended, ended-line, ended-rest, ended-splits, ended-plain}
use Rattle.log_lines.specs.Output.{written, with_answer, Sofar}
use Rattle.log_lines.specs.Folded.{behind_lines, passed-start, passed-line-by}

-- How far a chunk is answered: the bytes used, the text written, the state.
pub record Reached (S : Type 0) : Type 0 where
  pub used : ℕ
  pub text : List ℕ
  pub state : S

abbrev pub reached : {S : Type 0} → ℕ → List ℕ → S → Reached S
reached u o s = record { used = u; text = o; state = s }

-- room: how many bytes the longest answer has
module _ {S : Type 0} (next : S → List ℕ → S) (answer : S → List ℕ → List ℕ) (room : ℕ) where
  -- One line and its newline more.
  abbrev pub with_line : Reached S → List ℕ → Reached S
  with_line s l = reached (s.used + length l + 1) (s.text ++ answer s.state l) (next s.state l)

  -- The lines answered into a buffer of size bytes: as long as the longest answer has room.
  unfoldable pub answer_lines : ℕ → Reached S → List (List ℕ) → Reached S
  answer_lines size s [] = s
  answer_lines size s (l ∷ ls) = cond (ltb size (length s.text + room)) s (answer_lines size (with_line s l) ls)

  -- What a function that answers a chunk of log says of text, a buffer d that is then e, and the state s: whether no newline is left, the
  -- bytes used, the bytes written and the state k.
  pub record AnswerChunk (text d : List ℕ) (s : S) (done : Bool) (used written : ℕ) (k : S) (e : List ℕ) : Type 0 where
    pub is : reached used (take written e) k ≡ answer_lines (length d) (reached 0 [] s) (whole text)
    pub ended : done ≡ plain (drop used text)
    pub full : done ≡ false → length d < written + room
    pub inside : used ≤ length text
    pub fits : written ≤ length e
    pub same : length e ≡ length d
    pub beyond : drop written e ≡ drop written d
    pub sofar : Sofar next answer s text (take written e) k (drop used text)

  -- What its loop keeps: the log from at on is still to be answered, the answers so far stand in o before w.
  pub record Going (text d : List ℕ) (s : S) (at w : ℕ) (k : S) (o : List ℕ) : Type 0 where
    pub inside : at ≤ length text
    pub fits : w ≤ length o
    pub same : length o ≡ length d
    pub beyond : drop w o ≡ drop w d
    pub way : answer_lines (length d) (reached at (take w o) k) (whole (drop at text)) ≡ answer_lines (length d) (reached 0 [] s) (whole text)
    pub sofar : Sofar next answer s text (take w o) k (drop at text)

  pub going-start : (text d : List ℕ) (s : S) → Going text d s 0 0 s d
  going-start text d s = record { inside = omega arith; fits = omega arith; same = refl; beyond = refl; way = refl; sofar = passed-start (with_answer next answer) _ text }

  module _ (text d : List ℕ) (s : S) (at w : ℕ) (k : S) (o : List ℕ) (g : Going text d s at w k o) where
    -- no newline is left
    pub going-done : plain (drop at text) ≡ true → AnswerChunk text d s true at w k o
    unfolding answer_lines
    going-done p =
        record {
          is = sym (ap (answer_lines (length d) (reached at (take w o) k)) (whole-none (drop at text) p)) ∙ g.way;
          ended = sym p;
          full = λ z. absurd (true≢false z);
          inside = g.inside;
          fits = g.fits;
          same = g.same;
          beyond = g.beyond;
          sofar = g.sofar;
        }

    module _ (end on : ℕ) (n : Ended text at end on) where
      short : end_of (drop at text) < length (drop at text)
      short = let z = length-drop at text in omega (arith, n.is, n.inside)

      -- no room is left
      pub going-full : length o < w + room → AnswerChunk text d s false at w k o
      unfolding answer_lines
      going-full h =
          let z = g.same in
          let stop : answer_lines (length d) (reached at (take w o) k) (before 10 (drop at text) ∷ whole (drop (suc (end_of (drop at text))) (drop at text)))
          ≡ reached at (take w o) k =
          rw (length-take-le w o g.fits, lt-ltb (length d) (w + room) (omega arith)) in
          record {
            is = sym (ap (answer_lines (length d) (reached at (take w o) k)) (whole-left (drop at text) short) ∙ stop) ∙ g.way;
            ended = sym (ap plain (ended-splits text at end on n) ∙ not-plain (take (end - at) (drop at text)) (drop on text));
            full = λ q. omega arith;
            inside = g.inside;
            fits = g.fits;
            same = g.same;
            beyond = g.beyond;
            sofar = g.sofar;
          }

      -- one line more: its answer t, which has room, was put behind the others
      pub going-on : w + room ≤ length o → (t : List ℕ) (q : S) (r : ℕ) (e : List ℕ) → length t ≤ room
          → t ≡ answer k (take (end - at) (drop at text)) → q ≡ next k (take (end - at) (drop at text))
          → Put o w t r e → Going text d s on r q e
      unfolding answer_lines behind_lines
      going-on h t q r e few et eq p =
          let l : List ℕ = take (end - at) (drop at text) in
          let same : before 10 (drop at text) ≡ l = sym (ended-line text at end on n) in
          let fit : w + length t ≤ length o = omega arith in
          let size : length e ≡ length o = put-length p in
          let place : r ≡ w + length t = put-place p fit in
          let front : take r e ≡ take w o ++ t = put-front p fit in
          let len : length l ≡ end - at = length-take-le (end - at) (drop at text) (let z = length-drop at text in omega (arith, n.inside)) in
          let step : answer_lines (length d) (reached at (take w o) k) (l ∷ whole (drop on text))
          ≡ answer_lines (length d) (reached on (take w o ++ t) q) (whole (drop on text)) =
          let z = g.same in
          let there : at + length l + 1 ≡ on = omega (arith, n.after, n.start) in
          rw (length-take-le w o g.fits, le-ltb (length d) (w + room) (omega arith), there, et, eq) in
          let first : whole (drop at text) ≡ l ∷ whole (drop on text) =
          whole-left (drop at text) short ∙ ap₂ (λ (a : List ℕ) (b : List ℕ). a ∷ whole b) same (sym (ended-rest text at end on n)) in
          record {
            inside = omega (arith, n.after, n.inside);
            fits = omega arith;
            same = size ∙ g.same;
            beyond = put-rest p fit ∙ ap (λ (j : ℕ). drop j o) place ∙ sym (drop-drop (length t) w o) ∙ ap (drop (length t)) g.beyond
                ∙ drop-drop (length t) w d ∙ ap (λ (j : ℕ). drop j d) (sym place);
            way = rw front (sym step ∙ sym (ap (answer_lines (length d) (reached at (take w o) k)) first) ∙ g.way);
            sofar = rw (front, et, eq)
                (passed-line-by (with_answer next answer) (λ v m ls. refl) (written [] s) text (written (take w o) k) l (drop on text) (ended-plain text at end on n)
                (subst (λ (z : List ℕ). Sofar next answer s text (take w o) k z) (ended-splits text at end on n) g.sofar));
          }

  -- what the chunk function answers and leaves is determined
  module _ (text d : List ℕ) (s : S) (done done' : Bool) (used used' written written' : ℕ) (k k' : S) (e e' : List ℕ)
      (p : AnswerChunk text d s done used written k e) (q : AnswerChunk text d s done' used' written' k' e') where
    both : reached used (take written e) k ≡ reached used' (take written' e') k'
    both = p.is ∙ sym q.is

    pub chunk-used : used ≡ used'
    chunk-used = ap (λ (x : Reached S). x.used) both

    pub chunk-state : k ≡ k'
    chunk-state = ap (λ (x : Reached S). x.state) both

    pub chunk-done : done ≡ done'
    chunk-done = p.ended ∙ ap (λ (u : ℕ). plain (drop u text)) chunk-used ∙ sym q.ended

    pub chunk-written : written ≡ written'
    chunk-written =
        sym (length-take-le written e p.fits) ∙ ap (λ (x : Reached S). length x.text) both ∙ length-take-le written' e' q.fits

    pub chunk-memory : e ≡ e'
    chunk-memory =
        sym (take-append-drop written e)
        ∙ ap₂ (λ (a b : List ℕ). a ++ b) (ap (λ (x : Reached S). x.text) both) (p.beyond ∙ ap (λ (w : ℕ). drop w d) chunk-written ∙ sym q.beyond)
        ∙ take-append-drop written' e'
