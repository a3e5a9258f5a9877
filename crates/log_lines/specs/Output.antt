-- What a log is answered with, for any state and any answer to a line, wherever the log is cut.
use Rattle.std.specs.Prelude.{ℕ, ◌<◌, ◌≡◌, refl, Bool, length}
use Rattle.std.proofs.Common.{sym, ap₂, ◌∙◌}
use Rattle.std.proofs.Math.Path.{ap}
use mathlib.Core.List.{List, [], ◌∷◌, ◌++◌, append_assoc, append-nil}
use Rattle.log_lines.specs.Lines.{lines_of, plain}
use Rattle.log_lines.specs.Carrying.{enough, kept}
use Rattle.log_lines.specs.Folded as fold

-- What was written so far, and the state behind it.
pub record Written (S : Type 0) : Type 0 where
  pub text : List ℕ
  pub state : S

abbrev pub written : {S : Type 0} → List ℕ → S → Written S
written o s = record { text = o; state = s }

-- next: the state behind a line; answer: the text that a line is answered with
module _ {S : Type 0} (next : S → List ℕ → S) (answer : S → List ℕ → List ℕ) where
  -- The answers to the lines, one behind the other.
  unfoldable pub answers : S → List (List ℕ) → List ℕ
  answers s [] = []
  answers s (l ∷ ls) = answer s l ++ answers (next s l) ls

  -- What a log is answered with.
  unfoldable pub output : S → List ℕ → List ℕ
  output s log = answers s (lines_of log)

  -- ---- text and state go together

  -- A line more: its answer goes behind what was written.
  abbrev pub with_answer : Written S → List ℕ → Written S
  with_answer w l = written (w.text ++ answer w.state l) (next w.state l)

  -- What the laws below ask of the two folds.
  abbrev pub InTurn : Type 0
  InTurn = fold.InTurn next × fold.InTurn with_answer

  lines-by : InTurn → ((s : S) → fold.behind_lines next s [] ≡ s) → ((w : Written S) → fold.behind_lines with_answer w [] ≡ w)
      → (o : List ℕ) (s : S) (ls : List (List ℕ))
      → fold.behind_lines with_answer (written o s) ls ≡ written (o ++ answers s ls) (fold.behind_lines next s ls)
  unfolding answers
  lines-by turn none none' o s [] = none' (written o s) ∙ rw (none s, append-nil o)
  lines-by turn none none' o s (l ∷ ls) =
      turn.1 (written o s) l ls ∙ lines-by turn none none' (o ++ answer s l) (next s l) ls
      ∙ ap (λ (z : List ℕ). written z (fold.behind_lines next (next s l) ls)) (append_assoc o (answer s l) (answers (next s l) ls))
      ∙ ap (λ (t : S). written (o ++ (answer s l ++ answers (next s l) ls)) t) (sym (turn.0 s l ls))

  lines-written : (o : List ℕ) (s : S) (ls : List (List ℕ))
      → fold.behind_lines with_answer (written o s) ls ≡ written (o ++ answers s ls) (fold.behind_lines next s ls)
  unfolding fold.behind_lines
  lines-written = lines-by (λ s l ls. refl, λ w l ls. refl) (λ s. refl) (λ w. refl)

  log-by : InTurn → (o : List ℕ) (s : S) (log : List ℕ)
      → fold.behind_log with_answer (written o s) log ≡ written (o ++ output s log) (fold.behind_log next s log)
  unfolding output fold.behind_log fold.behind_lines
  log-by turn o s log = lines-by turn (λ s. refl) (λ w. refl) o s (lines_of log)

  -- A log leads to its output behind what was written, and to the state behind the log.
  pub log-written : (o : List ℕ) (s : S) (log : List ℕ)
      → fold.behind_log with_answer (written o s) log ≡ written (o ++ output s log) (fold.behind_log next s log)
  unfolding fold.behind_lines
  log-written = log-by (λ s l ls. refl, λ w l ls. refl)

  -- The run: what was read so far, and whatever follows, is answered by what was written and the answer to what is held and follows; and
  -- the state behind it is the one behind what is held and follows.
  abbrev pub Sofar : S → List ℕ → List ℕ → S → List ℕ → Type 0
  Sofar s₀ read o s held = fold.Passed with_answer (written [] s₀) read (written o s) held

  pub sofar-start : (s : S) → Sofar s [] [] s []
  sofar-start s = fold.passed-start with_answer (written [] s) []

  -- A part was read behind what is held.
  pub sofar-read : (s₀ : S) (read o : List ℕ) (s : S) (held part : List ℕ)
      → Sofar s₀ read o s held → Sofar s₀ (read ++ part) o s (held ++ part)
  sofar-read s₀ read o s held part = fold.passed-read with_answer (written [] s₀) read (written o s) held part

  further-by : InTurn → (o o' : List ℕ) (s : S) (log : List ℕ)
      → fold.behind_log with_answer (written (o ++ o') s) log ≡ written (o ++ (fold.behind_log with_answer (written o' s) log).text) (fold.behind_log with_answer (written o' s) log).state
  further-by turn o o' s log =
      log-by turn (o ++ o') s log
      ∙ ap (λ (z : List ℕ). written z (fold.behind_log next s log)) (append_assoc o o' (output s log))
      ∙ sym (ap (λ (w : Written S). written (o ++ w.text) w.state) (log-by turn o' s log))

  -- What is written behind o.
  further : (o o' : List ℕ) (s : S) (log : List ℕ)
      → fold.behind_log with_answer (written (o ++ o') s) log ≡ written (o ++ (fold.behind_log with_answer (written o' s) log).text) (fold.behind_log with_answer (written o' s) log).state
  unfolding fold.behind_lines
  further = further-by (λ s l ls. refl, λ w l ls. refl)

  pub sofar-then-by : InTurn → (s₀ : S) (read o : List ℕ) (s : S) (held o' : List ℕ) (s' : S) (held' : List ℕ)
      → Sofar s₀ read o s held → Sofar s held o' s' held' → Sofar s₀ read (o ++ o') s' held'
  sofar-then-by turn s₀ read o s held o' s' held' k u =
      record {
        keeps = λ more.
            k.keeps more
            ∙ ap (λ (z : List ℕ). fold.behind_log with_answer (written z s) (held ++ more)) (sym (append-nil o))
            ∙ further-by turn o [] s (held ++ more)
            ∙ ap (λ (w : Written S). written (o ++ w.text) w.state) (u.keeps more)
            ∙ sym (further-by turn o o' s' (held' ++ more));
      }

  -- What is held was answered in turn.
  pub sofar-then : (s₀ : S) (read o : List ℕ) (s : S) (held o' : List ℕ) (s' : S) (held' : List ℕ)
      → Sofar s₀ read o s held → Sofar s held o' s' held' → Sofar s₀ read (o ++ o') s' held'
  unfolding fold.behind_lines
  sofar-then = sofar-then-by (λ s l ls. refl, λ w l ls. refl)

  pub sofar-end-by : InTurn → (s₀ : S) (read o : List ℕ) (s : S) (held : List ℕ) → Sofar s₀ read o s held
      → (output s₀ read ≡ o ++ output s held) × (fold.behind_log next s₀ read ≡ fold.behind_log next s held)
  sofar-end-by turn s₀ read o s held k =
      let e : written (output s₀ read) (fold.behind_log next s₀ read) ≡ written (o ++ output s held) (fold.behind_log next s held) =
      sym (log-by turn [] s₀ read) ∙ fold.passed-end with_answer (written [] s₀) read (written o s) held k ∙ log-by turn o s held in
      (ap (λ (w : Written S). w.text) e, ap (λ (w : Written S). w.state) e)

  -- The end of the log: the answer to the whole of it, and the state behind it.
  pub sofar-end : (s₀ : S) (read o : List ℕ) (s : S) (held : List ℕ) → Sofar s₀ read o s held
      → (output s₀ read ≡ o ++ output s held) × (fold.behind_log next s₀ read ≡ fold.behind_log next s held)
  unfolding fold.behind_lines
  sofar-end = sofar-end-by (λ s l ls. refl, λ w l ls. refl)

  -- All lines over 128 bytes are answered alike.
  abbrev pub Alike : Type 0
  Alike = (s : S) (l m : List ℕ) → 128 < length l → 128 < length m → (next s l ≡ next s m) × (answer s l ≡ answer s m)

  pub sofar-kept-by : InTurn → 129 ≡ enough → Alike → (s₀ : S) (read o : List ℕ) (s : S) (held : List ℕ) (done : Bool) → done ≡ plain held
      → Sofar s₀ read o s held → Sofar s₀ read o s (kept done held)
  sofar-kept-by turn one alike s₀ read o s held =
      fold.passed-kept-by with_answer turn.1 one
      (λ w l m h k. let a = alike w.state l m h k in ap₂ (λ (t : List ℕ) (z : S). written (w.text ++ t) z) a.1 a.0)
      (written [] s₀) read (written o s) held

  -- What is carried on.
  pub sofar-kept : Alike → (s₀ : S) (read o : List ℕ) (s : S) (held : List ℕ) (done : Bool) → done ≡ plain held
      → Sofar s₀ read o s held → Sofar s₀ read o s (kept done held)
  unfolding fold.behind_lines
  sofar-kept = sofar-kept-by (λ s l ls. refl, λ w l ls. refl) refl
