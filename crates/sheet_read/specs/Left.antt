-- What a call of the reader leaves in its page buffer, by its answer alone.
-- Assumes nothing.
use Rattle.std.proofs.Math.Path.{◌≡◌}
use Rattle.std.proofs.Common.{arith}
use Rattle.std.specs.Prelude.{List, ℕ, eqb, length}
use Rattle.laws.specs.Tests.{by-test}
use Rattle.refusals.specs.Verdicts.{Accepted, Refused}
use Rattle.sheet_read.specs.Reading.{bad_in, page_said, taken_for, taken_in, read_verdict, page_in}
use Rattle.sheet_read.specs.Unjudged.{sized_for, sized_in, words_verdict, words_in}

module _ (s d : List ℕ) (k w : ℕ) where
  sized-kept : sized_for s (length d) ≡ Refused k w → sized_in s d ≡ d
  unfolding sized_for sized_in
  sized-kept e =
      by-test (eqb (length d) (length s))
      (λ t. let q : Accepted ≡ Refused k w = rw t at e in let z : ◌≡◌ {A = ℕ} 0 1 = cc in absurd (omega arith))
      (λ t. rw t)

module _ (t d : List ℕ) (k w : ℕ) where
  -- "A refused sheet leaves the page buffer untouched", whatever the refusal: a bad line, the buffer's size, or the page's own.
  pub refused-kept : read_verdict t (length d) ≡ Refused k w → page_in t d ≡ d
  unfolding read_verdict page_in taken_in
  refused-kept e =
      by-test (eqb (bad_in t) 0)
      (λ q. rw q (taken-kept (page_said t) (rw q at e)))
      (λ q. rw q)
    where
      taken-kept : (s : List ℕ) → taken_for s (length d) ≡ Refused k w → taken_in s d ≡ d
      taken-kept s e = rw e

  -- And so does one that is read without the judge.
  pub words-kept : words_verdict t (length d) ≡ Refused k w → words_in t d ≡ d
  unfolding words_verdict words_in
  words-kept e =
      by-test (eqb (bad_in t) 0)
      (λ q. rw q (sized-kept (page_said t) d k w (rw q at e)))
      (λ q. rw q)
