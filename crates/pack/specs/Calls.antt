-- Each call leads from the state after some events to the state after one event more, and hands on that it stands for them. Of an offered sample
-- that is shown in proofs/Offered.antt.
-- Assumes nothing.
use Rattle.std.specs.Prelude.{Ok, Err, ◌≡◌, refl, List, [], ◌∷◌, ℕ, ◌%◌, ◌<◌}
use Rattle.std.proofs.Math.Path.{sym, ap}
use Rattle.std.proofs.Common.{◌∙◌, arith}
use Rattle.std.proofs.Math.Nat.{mod-eq_of_lt}
use Rattle.laws.specs.Tests.{by-test}
use Rattle.page_judge.specs.Page.{judged, refusals}
use Rattle.page_judge.specs.Walk.{judged-answer}
use Rattle.refusals.specs.Answers.{answer_of}
use Rattle.refusals.specs.Refusals.{given}
use Rattle.refusals.specs.Verdicts.{Verdict, Accepted, Refused}
use Rattle.sample.specs.declared.Sample.{Sample}
use Rattle.pack_refusals.specs.Samples.{sample_refusals, sample_verdict, command_refusals, command_verdict}
use Rattle.pack_refusals.specs.SampleLaws.{command-most}
use Rattle.page_settings.specs.declared.Loaded.{Loaded}
use Rattle.page_settings.specs.Settings.{settings_of, no_settings, loaded_of, loaded_with}
use Rattle.page_settings.specs.Good.{Good, accepted-good}
use Rattle.pack_state.specs.declared.Pack.{Pack}
use Rattle.pack_state.specs.State.{state_after, fresh_pack, Watched, state-watched}
use Rattle.pack_state.specs.Steps.{state-fresh}
use Rattle.pack.specs.declared.Answered.{Answered}
use Rattle.pack.specs.Events.{Event, command, accepts, with_event, past_of}
use Rattle.pack.specs.Answers.{answered, offered, with_command, commanded}
use Rattle.pack.specs.Kept.{page_of, past_after, pack_after, Kept, after_load}

-- ---- a pack that accepts anything has an accepted page

page-with : (v : Verdict) (bytes : List ℕ) → judged bytes ≡ v → 0 < (loaded_with v bytes).settings.rules.n → Good (loaded_with v bytes).settings
unfolding no_settings
page-with (Ok done) bytes e h = accepted-good bytes e
page-with (Err refusal) bytes e h = absurd (omega arith)

pub page-good : (bytes : List ℕ) → 0 < (page_of bytes).rules.n → Good (page_of bytes)
unfolding loaded_of
page-good bytes h = page-with (judged bytes) bytes refl h

-- An accepted page's settings are what it says.
pub page-accepted : (bytes : List ℕ) → judged bytes ≡ Accepted → page_of bytes ≡ settings_of bytes
unfolding loaded_of
page-accepted bytes e = ap (λ (v : Verdict). (loaded_with v bytes).settings) e

-- ---- the state after one event more

-- Commanding the switches.
pub commanded-is : (bytes : List ℕ) (es : List Event) (c : ℕ)
    → commanded (pack_after bytes es) c ≡ answered (command_verdict c) (pack_after bytes (command c ∷ es))
unfolding commanded with_command pack_after state_after past_of with_event
commanded-is bytes es c =
    by-test (accepts (command_verdict c)) (λ t. rw t) (λ t. rw t)

-- ---- what each call hands on

pub kept-load : (bytes : List ℕ) → Kept (after_load bytes).pack
unfolding after_load pack_after past_of
kept-load bytes = record { bytes = bytes; events = []; is = state-fresh (page_of bytes) }

pub kept-command : (p : Pack) (c : ℕ) → Kept p → Kept (commanded p c).pack
kept-command p c k =
    record {
      bytes = k.bytes;
      events = command c ∷ k.events;
      is = ap (λ (q : Pack). (commanded q c).pack) k.is ∙ ap (λ (a : Answered). a.pack) (commanded-is k.bytes k.events c);
    }

-- A state that a load or a later call handed back keeps what its protections say.
pub kept-watched : (p : Pack) → Kept p → Watched p
unfolding pack_after
kept-watched p k = rw k.is (state-watched (page_of k.bytes) (past_after k.bytes k.events))

-- ---- the ends of the calls, in the code's own terms: the answer, its number and word, and what it hands on

verdict-is : (v : Verdict) (bytes : List ℕ) → (loaded_with v bytes).verdict ≡ v
verdict-is (Ok done) bytes = refl
verdict-is (Err refusal) bytes = refl

pub load-is : (bytes : List ℕ) (l : Loaded) (q : Pack) → l ≡ loaded_of bytes → q ≡ fresh_pack l.settings
    → (answered l.verdict q ≡ after_load bytes) × ((answer_of l.verdict ≡ given (refusals bytes)) × Kept q)
unfolding after_load loaded_of
load-is bytes l q el eq =
    let is : q ≡ fresh_pack (page_of bytes) = eq ∙ ap (λ (x : Loaded). fresh_pack x.settings) el in
    let judge : l.verdict ≡ judged bytes = ap (λ (x : Loaded). x.verdict) el ∙ verdict-is (judged bytes) bytes in
    (rw (is, el), ((judged-answer bytes l.verdict judge).1, rw is (kept-load bytes)))

module _ (p : Pack) (k : Kept p) where
  pub offer-refused : (s : Sample) (v : Verdict) (number word : ℕ)
      → (v ≡ sample_verdict p.rules.n s) × (answer_of v ≡ given (sample_refusals p.rules.n s)) → v ≡ Refused number word
      → (answered v p ≡ offered p s) × ((answer_of v ≡ given (sample_refusals p.rules.n s)) × Kept p)
  unfolding offered
  offer-refused s v number word ev er = (rw (← ev.0, er), (ev.1, k))

  pub command-accepted : (c : ℕ) (v : Verdict) → (v ≡ command_verdict c) × (answer_of v ≡ given (command_refusals c)) → v ≡ Accepted
      → (answered v (with_command p (c % 256)) ≡ commanded p c) × ((answer_of v ≡ given (command_refusals c)) × Kept (with_command p (c % 256)))
  unfolding commanded
  command-accepted c v ev ea =
      let small : c % 256 ≡ c = mod-eq_of_lt (let h = command-most c (sym ev.0 ∙ ea) in omega arith) in
      let is : answered v (with_command p (c % 256)) ≡ commanded p c = rw (← ev.0, ea, small) in
      (is, (ev.1, rw (ap (λ (a : Answered). a.pack) is) (kept-command p c k)))

  pub command-refused : (c : ℕ) (v : Verdict) (number word : ℕ) → (v ≡ command_verdict c) × (answer_of v ≡ given (command_refusals c))
      → v ≡ Refused number word → (answered v p ≡ commanded p c) × ((answer_of v ≡ given (command_refusals c)) × Kept p)
  unfolding commanded
  command-refused c v number word ev er = (rw (← ev.0, er), (ev.1, k))
