-- Offering a sample leads from the state after some events to the state after one event more, and hands on that it stands for them.
-- It stands in proofs/ and not beside the other calls of specs/Calls.antt: an edit that makes a definition wrong is then refused by it.
-- Assumes nothing.
use Rattle.std.specs.Prelude.{◌≡◌, refl, true, false, List, ◌∷◌, ℕ, zero, suc, ◌<◌}
use Rattle.std.proofs.Math.Path.{sym, ap}
use Rattle.std.proofs.Common.{◌∙◌, zero-lt-suc}
use Rattle.laws.specs.Tests.{by-test, clash}
use Rattle.refusals.specs.Answers.{answer_of}
use Rattle.refusals.specs.Refusals.{given}
use Rattle.refusals.specs.Verdicts.{Verdict, Accepted}
use Rattle.sample.specs.declared.Extremes.{Extremes}
use Rattle.sample.specs.declared.Sample.{Sample}
use Rattle.sample.specs.Cells.{extremes_of}
use Rattle.pack_refusals.specs.Agree.{trimmed-extremes}
use Rattle.pack_refusals.specs.Samples.{sample_refusals, sample_verdict, trimmed}
use Rattle.pack_refusals.specs.SampleLaws.{sample-none}
use Rattle.pack_state.specs.declared.Pack.{Pack}
use Rattle.pack_state.specs.State.{state_after, accepted_by, accepted_pack}
use Rattle.pack_state.specs.Steps.{state-next}
use Rattle.pack.specs.declared.Answered.{Answered}
use Rattle.pack.specs.Events.{Event, offer, accepts, with_event, past_of}
use Rattle.pack.specs.Answers.{answered, offered}
use Rattle.pack.specs.Kept.{page_of, past_after, pack_after, Kept}
use Rattle.pack.specs.Calls.{page-good}

some-if : (n : ℕ) (v : Verdict) → (n ≡ 0 → accepts v ≡ false) → accepts v ≡ true → 0 < n
some-if zero v none e = clash e (none refl)
some-if (suc n) v none e = zero-lt-suc n

sample-some : (n : ℕ) (s : Sample) → accepts (sample_verdict n s) ≡ true → 0 < n
sample-some n s = some-if n (sample_verdict n s) (λ z. ap accepts (sample-none n s z))

-- Offering a sample.
pub offered-is : (bytes : List ℕ) (es : List Event) (s : Sample)
    → offered (pack_after bytes es) s ≡ answered (sample_verdict (page_of bytes).rules.n s) (pack_after bytes (offer s ∷ es))
unfolding offered pack_after state_after past_of with_event
offered-is bytes es s =
    by-test (accepts (sample_verdict (page_of bytes).rules.n s))
    (λ t. rw t (ap (answered (sample_verdict (page_of bytes).rules.n s))
    (state-next (page_of bytes) (page-good bytes (sample-some (page_of bytes).rules.n s t)) (past_after bytes es) (trimmed s))))
    (λ t. rw t)

pub kept-offer : (p : Pack) (s : Sample) → Kept p → Kept (offered p s).pack
kept-offer p s k =
    record {
      bytes = k.bytes;
      events = offer s ∷ k.events;
      is = ap (λ (q : Pack). (offered q s).pack) k.is ∙ ap (λ (a : Answered). a.pack) (offered-is k.bytes k.events s);
    }

-- What is kept of a sample is accepted by the sample's own highest and lowest cell.
accepted-kept : (p : Pack) (s : Sample) → accepted_pack p (trimmed s) ≡ accepted_by (extremes_of s.cells s.count) p (trimmed s)
unfolding accepted_pack
accepted-kept p s = ap (λ (x : Extremes). accepted_by x p (trimmed s)) (trimmed-extremes s)

module _ (p : Pack) (k : Kept p) where
  -- An accepted sample, whose highest and lowest cell are e: `t` is what is kept of it.
  pub offer-accepted : (s t : Sample) (e : Extremes) (v : Verdict) (q : Pack)
      → (v ≡ sample_verdict p.rules.n s) × (answer_of v ≡ given (sample_refusals p.rules.n s)) → v ≡ Accepted → t ≡ trimmed s
      → e ≡ extremes_of s.cells s.count → q ≡ accepted_by e p t
      → (answered v q ≡ offered p s) × ((answer_of v ≡ given (sample_refusals p.rules.n s)) × Kept q)
  unfolding offered
  offer-accepted s t e v q ev ea et ee eq =
      let next : q ≡ accepted_pack p (trimmed s) =
      eq ∙ ap (accepted_by e p) et ∙ ap (λ (x : Extremes). accepted_by x p (trimmed s)) ee ∙ sym (accepted-kept p s) in
      let is : answered v q ≡ offered p s = rw (← ev.0, ea, next) in
      (is, (ev.1, rw (ap (λ (a : Answered). a.pack) is) (kept-offer p s k)))
