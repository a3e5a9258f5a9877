-- The state behind a log, for any state and any line function, wherever the log is cut.
use Rattle.std.specs.Prelude.{ℕ, ◌<◌, ◌≡◌, refl, Bool, true, false, ltb, take}
use Rattle.std.proofs.Math.Path.{sym, ap}
use Rattle.std.proofs.Common.{◌∙◌, not-suc-le-zero, take_all}
use mathlib.Core.List.{List, [], ◌∷◌, ◌++◌, append_assoc, append-nil}
use native.Mathlib.Omega.{arith}
use Rattle.std.proofs.Math.ListN.{length, length-append}
use Rattle.std.proofs.Math.Seq.{length-take-le}
use borrow.Author.Tests.{ltb-true, ltb-false}
use Rattle.laws.specs.Tests.{by-test}
use Rattle.log_lines.specs.Lines.{lines_of, plain}
use Rattle.log_lines.specs.Carrying.{enough, kept}
use Rattle.log_lines.specs.Walking.{onto, lines-onto, lines-line, plain-take}

-- next: the state behind a line
module _ {S : Type 0} (next : S → List ℕ → S) where
  -- The state behind some lines, one after the other.
  unfoldable pub behind_lines : S → List (List ℕ) → S
  behind_lines s [] = s
  behind_lines s (l ∷ ls) = behind_lines (next s l) ls

  -- The state behind a log.
  unfoldable pub behind_log : S → List ℕ → S
  behind_log s log = behind_lines s (lines_of log)

  -- What the laws below ask of these definitions, and of what is carried on: each is shown from it, and holds since the definitions are so.
  abbrev pub InTurn : Type 0
  InTurn = (s : S) (l : List ℕ) (ls : List (List ℕ)) → behind_lines s (l ∷ ls) ≡ behind_lines (next s l) ls

  pub line-by : InTurn → (s : S) (l more : List ℕ) → plain l ≡ true → behind_log s (l ++ (10 ∷ more)) ≡ behind_log (next s l) more
  unfolding behind_log
  line-by turn s l more p = ap (behind_lines s) (lines-line l more p) ∙ turn s l (lines_of more)

  pub behind-line : (s : S) (l more : List ℕ) → plain l ≡ true → behind_log s (l ++ (10 ∷ more)) ≡ behind_log (next s l) more
  unfolding behind_lines
  behind-line = line-by (λ s l ls. refl)

  -- A log that is cut: what was read so far, and whatever follows, leads where what is held and follows leads.
  pub record Passed (s₀ : S) (read : List ℕ) (s : S) (held : List ℕ) : Type 0 where
    pub keeps : (more : List ℕ) → behind_log s₀ (read ++ more) ≡ behind_log s (held ++ more)

  -- At the start nothing was read, and all of a text may be held.
  pub passed-start : (s : S) (held : List ℕ) → Passed s held s held
  passed-start s held = record { keeps = λ more. refl }

  -- A part was read behind what is held.
  pub passed-read : (s₀ : S) (read : List ℕ) (s : S) (held part : List ℕ) → Passed s₀ read s held → Passed s₀ (read ++ part) s (held ++ part)
  passed-read s₀ read s held part k =
      record { keeps = λ more. ap (behind_log s₀) (append_assoc read part more) ∙ k.keeps (part ++ more) ∙ ap (behind_log s) (sym (append_assoc held part more)) }

  -- What is held was passed in turn.
  pub passed-then : (s₀ : S) (read : List ℕ) (s : S) (held : List ℕ) (s' : S) (held' : List ℕ)
      → Passed s₀ read s held → Passed s held s' held' → Passed s₀ read s' held'
  passed-then s₀ read s held s' held' k u = record { keeps = λ more. k.keeps more ∙ u.keeps more }

  pub passed-line-by : InTurn → (s₀ : S) (read : List ℕ) (s : S) (l rest : List ℕ) → plain l ≡ true
      → Passed s₀ read s (l ++ (10 ∷ rest)) → Passed s₀ read (next s l) rest
  passed-line-by turn s₀ read s l rest p k =
      passed-then s₀ read s (l ++ (10 ∷ rest)) (next s l) rest k
      (record { keeps = λ more. ap (behind_log s) (append_assoc l (10 ∷ rest) more) ∙ line-by turn s l (rest ++ more) p })

  -- A line was passed.
  pub passed-line : (s₀ : S) (read : List ℕ) (s : S) (l rest : List ℕ) → plain l ≡ true
      → Passed s₀ read s (l ++ (10 ∷ rest)) → Passed s₀ read (next s l) rest
  unfolding behind_lines
  passed-line = passed-line-by (λ s l ls. refl)

  -- The end of the log.
  pub passed-end : (s₀ : S) (read : List ℕ) (s : S) (held : List ℕ) → Passed s₀ read s held → behind_log s₀ read ≡ behind_log s held
  passed-end s₀ read s held k = ap (behind_log s₀) (sym (append-nil read)) ∙ k.keeps [] ∙ ap (behind_log s) (append-nil held)

  -- All lines over 128 bytes lead to the same state.
  abbrev pub Alike : Type 0
  Alike = (s : S) (l m : List ℕ) → 128 < length l → 128 < length m → next s l ≡ next s m

  module _ (turn : InTurn) (one : 129 ≡ enough) (alike : Alike) where
    long-by : (s : S) (l m : List ℕ) (ls : List (List ℕ)) → 128 < length l → 128 < length m
        → behind_lines s (onto l ls) ≡ behind_lines s (onto m ls)
    long-by s [] m ls h k = absurd (not-suc-le-zero h)
    long-by s (b ∷ l) [] ls h k = absurd (not-suc-le-zero k)
    long-by s (b ∷ l) (c ∷ m) [] h k =
        turn s (b ∷ l) [] ∙ ap (λ (t : S). behind_lines t []) (alike s (b ∷ l) (c ∷ m) h k) ∙ sym (turn s (c ∷ m) [])
    long-by s (b ∷ l) (c ∷ m) (f ∷ fs) h k =
        let h' : 128 < length (b ∷ l ++ f) = let z = length-append (b ∷ l) f in omega arith in
        let k' : 128 < length (c ∷ m ++ f) = let z = length-append (c ∷ m) f in omega arith in
        turn s (b ∷ l ++ f) fs ∙ ap (λ (t : S). behind_lines t fs) (alike s (b ∷ l ++ f) (c ∷ m ++ f) h' k') ∙ sym (turn s (c ∷ m ++ f) fs)

    cut-at : (n : ℕ) → n ≡ 129 → (s : S) (l more : List ℕ) → plain l ≡ true → behind_log s (l ++ more) ≡ behind_log s (take n l ++ more)
    unfolding behind_log
    cut-at n q s l more p =
        by-test (ltb 128 (length l))
        (λ t.
        let h = ltb-true 128 (length l) t in
        let e = length-take-le n l (omega arith) in
        ap (behind_lines s) (lines-onto l more p) ∙ long-by s l (take n l) (lines_of more) h (omega arith)
        ∙ sym (ap (behind_lines s) (lines-onto (take n l) more (plain-take n l p))))
        (λ t. let h = ltb-false 128 (length l) t in ap (λ (m : List ℕ). behind_log s (m ++ more)) (sym (take_all n l (omega arith))))

    pub passed-kept-by : (s₀ : S) (read : List ℕ) (s : S) (held : List ℕ) (done : Bool) → done ≡ plain held
        → Passed s₀ read s held → Passed s₀ read s (kept done held)
    passed-kept-by s₀ read s held true p k = record { keeps = λ more. k.keeps more ∙ cut-at enough (sym one) s held more (sym p) }
    passed-kept-by s₀ read s held false p k = k

  module _ (alike : Alike) where
    long-alike : (s : S) (l m : List ℕ) (ls : List (List ℕ)) → 128 < length l → 128 < length m
        → behind_lines s (onto l ls) ≡ behind_lines s (onto m ls)
    unfolding behind_lines
    long-alike = long-by (λ s l ls. refl) refl alike

    -- The cut: of a line that did not end yet, 129 bytes are enough to hold.
    pub cut-right : (s : S) (l more : List ℕ) → plain l ≡ true → behind_log s (l ++ more) ≡ behind_log s (take enough l ++ more)
    unfolding behind_lines
    cut-right = cut-at (λ s l ls. refl) refl alike enough refl

    -- What is carried on.
    pub passed-kept : (s₀ : S) (read : List ℕ) (s : S) (held : List ℕ) (done : Bool) → done ≡ plain held
        → Passed s₀ read s held → Passed s₀ read s (kept done held)
    unfolding behind_lines
    passed-kept = passed-kept-by (λ s l ls. refl) refl alike
