-- What a call of the writer leaves in its buffer, by its answer alone.
-- Assumes nothing.
use Rattle.std.proofs.Math.Path.{◌≡◌}
use Rattle.std.specs.Prelude.{refl, Ok, Err, List, ◌++◌, ℕ, ltb}
use Rattle.std.proofs.Common.{sym, ap, arith}
use Rattle.std.proofs.Math.ListN.{length, drop}
use Rattle.laws.specs.Tests.{by-test}
use Rattle.page_judge.specs.Page.{judged}
use Rattle.refusals.specs.Verdicts.{Verdict}
use Rattle.refusals.specs.Verdicts as verdict
use Rattle.sheet_write.specs.Sheet.{sheet_of, wrote_text, text_in, wrote_for, sheet_in}
use Rattle.sheet_write.specs.Wrote.{Text, Refused}

-- ---- any text

module _ (s d : List ℕ) where
  pub text-kept : (k w : ℕ) → wrote_text s (length d) ≡ Refused k w → text_in s d ≡ d
  unfolding wrote_text text_in
  text-kept k w e =
      by-test (ltb (length d) (length s))
      (λ t. rw t)
      (λ t. let q : Text (length s) ≡ Refused k w = rw t at e in let z : ◌≡◌ {A = ℕ} 0 1 = cc in absurd (omega arith))

  pub text-put : (n : ℕ) → wrote_text s (length d) ≡ Text n → (length s ≡ n) × (text_in s d ≡ s ++ drop n d)
  unfolding wrote_text text_in
  text-put n e =
      by-test (ltb (length d) (length s))
      (λ t. let q : Refused 23 0 ≡ Text n = rw t at e in let z : ◌≡◌ {A = ℕ} 0 1 = cc in absurd (omega arith))
      (λ t.
      let q : Text (length s) ≡ Text n = rw t at e in
      let m : length s ≡ n = cc in
      (m, rw t (ap (λ (x : ℕ). s ++ drop x d) m)))

-- ---- the sheet of a page

kept-by : (v : Verdict) (b d : List ℕ) (k w : ℕ) → v ≡ judged b → wrote_for b (length d) ≡ Refused k w → sheet_in b d ≡ d
unfolding wrote_for sheet_in
kept-by (Ok tt) b d k w e q = rw (← e) (text-kept (sheet_of b) d k w (rw (← e) at q))
kept-by (Err r) b d k w e q = rw (← e)

-- What the writer has done where it answers that the sheet has n bytes.
pub record Done (b d : List ℕ) (n : ℕ) : Type 0 where
  pub accepted : judged b ≡ verdict.Accepted
  pub size : length (sheet_of b) ≡ n
  pub bytes : sheet_in b d ≡ sheet_of b ++ drop n d

put-by : (v : Verdict) (b d : List ℕ) (n : ℕ) → v ≡ judged b → wrote_for b (length d) ≡ Text n → Done b d n
unfolding wrote_for sheet_in
put-by (Ok tt) b d n e q =
    let p = text-put (sheet_of b) d n (rw (← e) at q) in
    record { accepted = sym e; size = p.0; bytes = rw (← e) p.1 }
put-by (Err r) b d n e q =
    let f : Refused r.number r.word ≡ Text n = rw (← e) at q in let z : ◌≡◌ {A = ℕ} 0 1 = cc in absurd (omega arith)

-- "Left untouched": whatever the refusal, the buffer is as it was.
pub refused-kept : (b d : List ℕ) (k w : ℕ) → wrote_for b (length d) ≡ Refused k w → sheet_in b d ≡ d
refused-kept b d k w = kept-by (judged b) b d k w refl

-- "Bytes past the sheet stay": the page is an accepted one, n bytes are its sheet, and behind them is what was there.
pub written-front : (b d : List ℕ) (n : ℕ) → wrote_for b (length d) ≡ Text n → Done b d n
written-front b d n = put-by (judged b) b d n refl
