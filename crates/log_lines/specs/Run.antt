-- A log read and answered in rounds, wherever the reads cut it: what is written is the log's output, and the state is the one behind it.
use Prim.Native.Nat.{ℕ, ◌+◌, ◌-◌, ◌≤◌}
use Rattle.std.specs.Prelude.{◌≡◌, Bool, false, cond, eqb, take}
use Rattle.std.proofs.Math.Path.{refl, ap, subst}
use Rattle.std.proofs.Common.{sym, ◌∙◌, true≢false, le_refl, arith, length-append}
use Rattle.std.proofs.Math.Bool.{true}
use mathlib.Core.List.{List, [], ◌∷◌, ◌++◌, append_assoc, append-nil}
use Rattle.std.proofs.Math.ListN.{length, drop, drop_of_length-le}
use Rattle.std.proofs.Math.Seq.{take-length}
use borrow.Author.Tests.{le-ltb, eqb-true, eqb-false, ne_eqb}
use Rattle.laws.specs.Tests.{by-test}
use Rattle.text_fields.specs.Finding.{lacks}
use Rattle.log_lines.specs.Lines.{lines_of, plain}
use Rattle.log_lines.specs.Carrying.{enough, kept, carried, move_down, moved-kept, carried-few}
use Rattle.log_lines.specs.Walking.{lines-line, lines-rest, plain-take, whole, whole-none, whole-line}
use Rattle.log_lines.specs.Folded.{behind_lines, behind_log}
use Rattle.log_lines.specs.Output.{answers, output, InTurn, Alike, Sofar, sofar-start, sofar-read, sofar-then-by, sofar-end-by, sofar-kept-by}
use Rattle.log_lines.specs.Chunk.{AnswerChunk, Reached, reached, answer_lines}

-- What the last line lacks, where held bytes are left at the end of the log: its newline. Nothing is no line.
unfoldable pub closing : ℕ → List ℕ
closing held = cond (eqb held 0) [] (10 ∷ [])

-- A round of a program: the bytes `part` were read behind those that waited, and all of them were fed. The buffer for answers was `out`
-- and is then `text`; the buffer that waited is then `rest`.
pub record Round (S : Type 0) : Type 0 where
  pub part : List ℕ
  pub out : List ℕ
  pub done : Bool
  pub used : ℕ
  pub held : ℕ
  pub written : ℕ
  pub state : S
  pub rest : List ℕ
  pub text : List ℕ

module _ {S : Type 0} where
  -- All that was read in some rounds, and all that was written.
  abbrev pub read_in : List (Round S) → List ℕ
  read_in [] = []
  read_in (r ∷ rs) = r.part ++ read_in rs

  abbrev pub written_in : List (Round S) → List ℕ
  written_in [] = []
  written_in (r ∷ rs) = take r.written r.text ++ written_in rs

  -- The state behind some rounds, what waits then, and whether the last of them left no line.
  abbrev pub state_behind : S → List (Round S) → S
  state_behind s [] = s
  state_behind s (r ∷ rs) = state_behind r.state rs

  abbrev pub held_behind : List ℕ → List (Round S) → List ℕ
  held_behind held [] = held
  held_behind held (r ∷ rs) = held_behind (take r.held r.rest) rs

  abbrev pub done_behind : Bool → List (Round S) → Bool
  done_behind done [] = done
  done_behind done (r ∷ rs) = done_behind r.done rs

-- What the laws below ask of it.
abbrev Closes : Type 0
Closes = (closing 0 ≡ []) × ((n : ℕ) → (n ≡ 0 → ⊥) → closing n ≡ 10 ∷ [])

closed-by : Closes → (held : List ℕ) → plain held ≡ true → lines_of (held ++ closing (length held)) ≡ lines_of held
unfolding lines_of
closed-by c [] p = rw c.0
closed-by c (b ∷ l) p = rw (c.1 (length (b ∷ l)) (λ e. omega arith)) (lines-line (b ∷ l) [] p ∙ sym (lines-rest (b ∷ l) p))

-- With its newline the last line is the line that it is without.
pub lines-closed : (held : List ℕ) → plain held ≡ true → lines_of (held ++ closing (length held)) ≡ lines_of held
unfolding closing
lines-closed = closed-by (refl, λ n h. rw (ne_eqb n 0 h))

module _ {S : Type 0} (next : S → List ℕ → S) (answer : S → List ℕ → List ℕ) (room : ℕ) where
  -- What a function that feeds a buffer says of the buffer buf that is then buf', and the buffer d for the answers that is then e: the
  -- chunk of its bytes, how many of them wait, and that these were moved to the front.
  pub record Feed (buf d : List ℕ) (s : S) (done : Bool) (used held written : ℕ) (k : S) (buf' e : List ℕ) : Type 0 where
    pub chunk : AnswerChunk next answer room buf d s done used written k e
    pub carries : held ≡ carried done (length buf - used)
    pub moved : buf' ≡ move_down buf used held
    pub few : held ≤ length buf
    pub wrote : written ≤ length e

  -- Rounds one behind the other, from a state and the bytes that wait on.
  abbrev pub Ran : S → List ℕ → List (Round S) → Type 0
  Ran s held [] = Unit {0}
  Ran s held (r ∷ rs) =
      Feed (held ++ r.part) r.out s r.done r.used r.held r.written r.state r.rest r.text
      × Ran r.state (take r.held r.rest) rs

  module _ (buf d : List ℕ) (s : S) (done : Bool) (used held written : ℕ) (k : S) (buf' e : List ℕ) where
    -- A buffer was fed.
    pub feed-made : AnswerChunk next answer room buf d s done used written k e → held ≡ carried done (length buf - used)
        → buf' ≡ move_down buf used held → Feed buf d s done used held written k buf' e
    feed-made c h m =
        record { chunk = c; carries = h; moved = m; few = let z = carried-few done (length buf - used) in omega arith; wrote = c.fits }

    module _ (f : Feed buf d s done used held written k buf' e) where
      fed-kept : take held buf' ≡ kept done (drop used buf)
      fed-kept =
          rw (f.moved, f.carries)
          (moved-kept buf (length buf) used done (le_refl (length buf)) f.chunk.inside
          ∙ ap (λ (z : List ℕ). kept done (drop used z)) (take-length buf))

      fed-by : InTurn next answer → 129 ≡ enough → Alike next answer → (s₀ : S) (read o : List ℕ) → Sofar next answer s₀ read o s buf
          → Sofar next answer s₀ read (o ++ take written e) k (take held buf')
      fed-by turn one alike s₀ read o t =
          sofar-then-by next answer turn s₀ read o s buf (take written e) k (take held buf') t
          (subst (λ (z : List ℕ). Sofar next answer s buf (take written e) k z) (sym fed-kept)
          (sofar-kept-by next answer turn one alike s buf (take written e) k (drop used buf) done f.chunk.ended f.chunk.sofar))

      -- As a step of the run.
      pub sofar-fed : Alike next answer → (s₀ : S) (read o : List ℕ) → Sofar next answer s₀ read o s buf
          → Sofar next answer s₀ read (o ++ take written e) k (take held buf')
      unfolding behind_lines
      sofar-fed = fed-by (λ s l ls. refl, λ w l ls. refl) refl

      -- Where no newline is left, none is in what waits.
      pub fed-plain : done ≡ true → plain (take held buf') ≡ true
      fed-plain t = ap plain fed-kept ∙ by-done done (drop used buf) f.chunk.ended t
        where
          by-done : (d : Bool) (x : List ℕ) → d ≡ plain x → d ≡ true → plain (kept d x) ≡ true
          by-done true x e t = plain-take enough x (sym e)
          by-done false x e t = absurd (true≢false (sym t))

  module _ (alike : Alike next answer) where
    ran-by : InTurn next answer → 129 ≡ enough → (s₀ : S) (read o : List ℕ) (s : S) (held : List ℕ) (rs : List (Round S)) → Sofar next answer s₀ read o s held → Ran s held rs
        → Sofar next answer s₀ (read ++ read_in rs) (o ++ written_in rs) (state_behind s rs) (held_behind held rs)
    ran-by turn one s₀ read o s held [] t u = rw (append-nil read, append-nil o) t
    ran-by turn one s₀ read o s held (r ∷ rs) t u =
        let part = sofar-read next answer s₀ read o s held r.part t in
        let fed =
        fed-by (held ++ r.part) r.out s r.done r.used r.held r.written r.state r.rest r.text u.0 turn one alike s₀
        (read ++ r.part) o part in
        rw (← append_assoc read r.part (read_in rs), ← append_assoc o (take r.written r.text) (written_in rs))
        (ran-by turn one s₀ (read ++ r.part) (o ++ take r.written r.text) r.state (take r.held r.rest) rs fed u.1)

    -- Any number of rounds.
    pub sofar-ran : (s₀ : S) (read o : List ℕ) (s : S) (held : List ℕ) (rs : List (Round S)) → Sofar next answer s₀ read o s held → Ran s held rs
        → Sofar next answer s₀ (read ++ read_in rs) (o ++ written_in rs) (state_behind s rs) (held_behind held rs)
    unfolding behind_lines
    sofar-ran = ran-by (λ s l ls. refl, λ w l ls. refl) refl

    ran-plain : (s : S) (held : List ℕ) (done : Bool) (rs : List (Round S)) → Ran s held rs → (done ≡ true → plain held ≡ true)
        → done_behind done rs ≡ true → plain (held_behind held rs) ≡ true
    ran-plain s held done [] u p t = p t
    ran-plain s held done (r ∷ rs) u p t =
        ran-plain r.state (take r.held r.rest) r.done rs u.1
        (fed-plain (held ++ r.part) r.out s r.done r.used r.held r.written r.state r.rest r.text u.0) t

    used-by : Closes → (s : S) (held : List ℕ) (size : ℕ) → plain held ≡ true → room ≤ size
        → (answer_lines next answer room size (reached 0 [] s) (whole (held ++ closing (length held)))).used
        ≡ length (held ++ closing (length held))
    unfolding answer_lines lacks
    used-by c s held size n h =
        by-test (eqb (length held) 0)
        (λ t. let k = eqb-true (length held) 0 t in let z : closing (length held) ≡ [] = rw k c.0 in rw (z, append-nil held, whole-none held n, k))
        (λ t. let z : closing (length held) ≡ 10 ∷ [] = c.1 (length held) (eqb-false (length held) 0 t) in
        rw (z, whole-line held [] n, whole-none [] refl, le-ltb size (0 + room) (omega arith), length-append) (omega arith))

    closing-used : (s : S) (held : List ℕ) (size : ℕ) → plain held ≡ true → room ≤ size
        → (answer_lines next answer room size (reached 0 [] s) (whole (held ++ closing (length held)))).used
        ≡ length (held ++ closing (length held))
    unfolding closing
    closing-used = used-by (refl, λ n h. rw (ne_eqb n 0 h))

    -- THE WHOLE LOG, however it was cut into rounds: the last of them left no line, and then what waits was fed once more, with the newline
    -- that its last line may lack. What was written is the log's output, and the state is the one behind it.
    pub whole-log : (s : S) (rs : List (Round S)) → Ran s [] rs → done_behind true rs ≡ true
        → (r : Round S) → r.part ≡ closing (length (held_behind [] rs)) → room ≤ length r.out → Ran (state_behind s rs) (held_behind [] rs) (r ∷ [])
        → (output next answer s (read_in rs) ≡ written_in rs ++ take r.written r.text) × (behind_log next s (read_in rs) ≡ r.state)
    unfolding behind_log behind_lines output answers lines_of lacks closing
    whole-log s rs u t r c h f =
        let turn : InTurn next answer = (λ s l ls. refl, λ w l ls. refl) in
        let closes : Closes = (refl, λ n e. rw (ne_eqb n 0 e)) in
        let held : List ℕ = held_behind [] rs in
        let last : S = state_behind s rs in
        let p : plain held ≡ true = ran-plain s [] true rs u (λ e. refl) t in
        let chunk : AnswerChunk next answer room (held ++ closing (length held)) r.out last r.done r.used r.written r.state r.text =
        subst (λ (z : List ℕ). AnswerChunk next answer room (held ++ z) r.out last r.done r.used r.written r.state r.text) c f.0.chunk in
        let all : r.used ≡ length (held ++ closing (length held)) =
        ap (λ (x : Reached S). x.used) chunk.is ∙ used-by closes last held (length r.out) p h in
        let none : drop r.used (held ++ closing (length held)) ≡ [] =
        ap (λ (k : ℕ). drop k (held ++ closing (length held))) all ∙ drop_of_length-le (held ++ closing (length held)) (le_refl (length (held ++ closing (length held)))) in
        let rounds = sofar-end-by next answer turn s (read_in rs) (written_in rs) last held (ran-by turn refl s [] [] s [] rs (sofar-start next answer s) u) in
        let end =
        sofar-end-by next answer turn last (held ++ closing (length held)) (take r.written r.text) r.state []
        (subst (λ (z : List ℕ). Sofar next answer last (held ++ closing (length held)) (take r.written r.text) r.state z) none chunk.sofar) in (
          rounds.0
              ∙ ap (λ (z : List ℕ). written_in rs ++ z)
              (ap (answers next answer last) (sym (closed-by closes held p)) ∙ end.0 ∙ append-nil (take r.written r.text)),
          rounds.1 ∙ ap (behind_lines next last) (sym (closed-by closes held p)) ∙ end.1,
        )
