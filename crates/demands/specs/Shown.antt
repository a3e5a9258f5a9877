-- What `decide` shows of a pack after a load of any bytes and any calls, and what it showed at each accepted sample since the load: each
-- field is what document 01 says of the page and the past.
-- Assumes nothing.
use Rattle.std.specs.Prelude.{◌≡◌, refl, Ok, Err, Bool, true, false, not, cond, ◌&&◌, List, [], ◌∷◌, map, ◌↔◌, ℕ, zero, suc, ◌+◌, ◌*◌, ◌≤◌, ◌<◌, length}
use Rattle.std.proofs.Common.{sym, ap₂, ◌∙◌, true≢false, zero-lt-suc, arith, ne_eqb}
use Rattle.std.proofs.Math.Path.{ap}
use Rattle.std.proofs.lemmas.Bool.{not-true}
use Rattle.laws.specs.Tests.{by-test, by-order, clash, and-left, and-right}
use Rattle.laws.specs.Bits.{has_bit, with_bit_if}
use Rattle.laws.specs.Latest.{last_all}
use Rattle.protections.specs.Table.{row_at, protections}
use Rattle.protections.specs.declared.Limits.{Limits}
use Rattle.protections.specs.declared.Row.{Row}
use Rattle.page_words.specs.Ranges.{word_at}
use Rattle.page_judge.specs.Page.{judged}
use Rattle.refusals.specs.Verdicts.{Verdict, Accepted}
use Rattle.sample.specs.declared.Sample.{Sample}
use Rattle.sample.specs.Measure.{trips, qualifies}
use Rattle.protections.specs.Limits.{limits_at}
use Rattle.guard.specs.Steps.{raised}
use Rattle.guard.specs.StepLaws.{raised-when, released-when}
use Rattle.laws.specs.Words.{bits_of, any_of, any-yes, bits-past}
use Rattle.guard_raised.specs.Words.{raised_after, raised_word_after, any_raised_after, blocks_after, raised_word_after-has, raised_word_after-short, any_raised_after-word}
use Rattle.page_settings.specs.declared.Settings.{Settings}
use Rattle.page_settings.specs.Settings.{limits_from, page_protections, settings_of, rules_of, no_settings, loaded_with, loaded_of}
use Rattle.page_settings.specs.Good.{limits-own, most-protections}
use Rattle.bleed_wants.specs.Wants.{is_charging, wants}
use Rattle.bleed_wants.specs.Steps.{wishes}
use Rattle.bleed.specs.Walk.Walk.{order}
use Rattle.bleed.proofs.Walk.WalkLaws.{walk-none}
use Rattle.bleed.specs.Walk.Word.{cells_word}
use Rattle.bleed.specs.Walk.History.{resting, start_cell}
use Rattle.bleed.specs.Walk.Balance.{bled_word_after}
use Rattle.pack_refusals.specs.Samples.{sample_verdict, command_verdict, trimmed}
use Rattle.pack_refusals.specs.SampleLaws.{sample-none}
use Rattle.pack_state.specs.declared.Pack.{Pack}
use Rattle.pack_state.specs.Past.{past}
use Rattle.pack_state.specs.Absent.{never-rises}
use Rattle.pack_state.specs.State.{wish_at, wishes_after, bleds_after, bled_after, any_sample}
use Rattle.pack.specs.declared.Answered.{Answered}
use Rattle.pack.specs.Events.{Event, offer, command, accepts, with_event, past_of}
use Rattle.pack.specs.Answers.{offered}
use Rattle.pack.specs.Kept.{page_of, past_after, pack_after}
use Rattle.pack.specs.Calls.{page-accepted}
use Rattle.pack.proofs.Offered.{offered-is}
use Rattle.pack.specs.After.{after}
use Rattle.pack.proofs.After.{after-is}
use Rattle.pack_shown.specs.declared.Decision.{Decision}
use Rattle.pack_shown.specs.Shown.{switch_after, decision_after, decision_of}
use Rattle.pack_shown.specs.Decided.{decision-is}
use Rattle.bus_words.specs.Demands.{own-bit}
use Rattle.demands.specs.BledWords.{bled_words_after}

-- ---- what is shown

module _ (bytes : List ℕ) where
  -- What `decide` shows of the pack after the load and some calls: the five fields of a line of the replay.
  abbrev pub shown : List Event → Decision
  shown es = decision_of (after bytes es)

  -- What it showed at each accepted sample since the load, the latest first: after each offer that was accepted.
  abbrev pub shown_at : List Event → List Decision
  shown_at [] = []
  shown_at (offer s ∷ es) = cond (accepts (offered (after bytes es) s).verdict) (shown (offer s ∷ es) ∷ shown_at es) (shown_at es)
  shown_at (command c ∷ es) = shown_at es

  -- The balance field of each.
  abbrev pub shown_words : List Event → List ℕ
  shown_words es = map (λ d. d.balance) (shown_at es)

  -- The samples that were accepted since the load, the latest first, and who wanted at each by document 01.
  abbrev pub samples : List Event → List Sample
  samples es = (past_after bytes es).history

  abbrev pub wanted : List Event → List (ℕ → Bool)
  wanted es = wishes_after (page_of bytes) (samples es)

-- Who wants where there is no sample.
abbrev pub nobody : ℕ → Bool
nobody k = false

-- ---- each field is document 01's

pub shown-is : (bytes : List ℕ) (es : List Event) → shown bytes es ≡ decision_after (page_of bytes) (past_after bytes es)
unfolding pack_after
shown-is bytes es = ap decision_of (after-is bytes es) ∙ decision-is (page_of bytes) (past_after bytes es)

pub shown-balance : (bytes : List ℕ) (es : List Event) → (shown bytes es).balance ≡ bled_after (page_of bytes) (samples bytes es)
unfolding decision_after
shown-balance bytes es = ap (λ (d : Decision). d.balance) (shown-is bytes es)

-- What an offer answers.
pub verdict-is : (bytes : List ℕ) (es : List Event) (s : Sample)
    → (offered (after bytes es) s).verdict ≡ sample_verdict (page_of bytes).rules.n s
verdict-is bytes es s =
    ap (λ (p : Pack). (offered p s).verdict) (after-is bytes es) ∙ ap (λ (a : Answered). a.verdict) (offered-is bytes es s)

-- The samples behind one offer more: an accepted sample is kept in front of the others.
module _ (bytes : List ℕ) (es : List Event) (s : Sample) where
  abbrev with_if : Bool → List Sample
  with_if taken = (cond taken (past (trimmed s ∷ samples bytes es) (past_after bytes es).standing) (past_after bytes es)).history

  behind : (taken : Bool) → accepts (sample_verdict (page_of bytes).rules.n s) ≡ taken → samples bytes (offer s ∷ es) ≡ with_if taken
  unfolding past_of with_event
  behind taken e = ap with_if e

  pub samples-with : (offered (after bytes es) s).verdict ≡ Accepted → samples bytes (offer s ∷ es) ≡ trimmed s ∷ samples bytes es
  samples-with taken = behind true (ap accepts (sym (verdict-is bytes es s) ∙ taken))

-- A command is no sample.
pub samples-command : (bytes : List ℕ) (es : List Event) (c : ℕ) → samples bytes (command c ∷ es) ≡ samples bytes es
unfolding past_of with_event
samples-command bytes es c = either (accepts (command_verdict c))
  where
    either : (taken : Bool) → (cond taken (past (samples bytes es) c) (past_after bytes es)).history ≡ samples bytes es
    either true = refl
    either false = refl

-- One is shown for each accepted sample, and none for a refused one or a command.
pub shown-each : (bytes : List ℕ) (es : List Event) → length (shown_words bytes es) ≡ length (samples bytes es)
unfolding past_of
shown-each bytes [] = refl
shown-each bytes (offer s ∷ es) =
    by-test (accepts (sample_verdict (page_of bytes).rules.n s))
    (λ t. rw (verdict-is bytes es s, t) (ap suc (shown-each bytes es) ∙ sym (ap length (behind bytes es s true t))))
    (λ t. rw (verdict-is bytes es s, t) (shown-each bytes es ∙ sym (ap length (behind bytes es s false t))))
shown-each bytes (command c ∷ es) = shown-each bytes es ∙ sym (ap length (samples-command bytes es c))

-- The balance fields shown at the accepted samples are the bled words of the history.
pub shown-words : (bytes : List ℕ) (es : List Event) → shown_words bytes es ≡ bled_words_after (page_of bytes) (samples bytes es)
unfolding past_of
shown-words bytes [] = refl
shown-words bytes (offer s ∷ es) =
    by-test (accepts (sample_verdict (page_of bytes).rules.n s))
    (λ t.
    let e = behind bytes es s true t in
    rw (verdict-is bytes es s, t)
    (ap₂ (λ (w : ℕ) (l : List ℕ). w ∷ l) (shown-balance bytes (offer s ∷ es) ∙ ap (bled_after (page_of bytes)) e) (shown-words bytes es)
    ∙ sym (ap (bled_words_after (page_of bytes)) e)))
    (λ t. rw (verdict-is bytes es s, t) (shown-words bytes es ∙ sym (ap (bled_words_after (page_of bytes)) (behind bytes es s false t))))
shown-words bytes (command c ∷ es) = shown-words bytes es ∙ sym (ap (bled_words_after (page_of bytes)) (samples-command bytes es c))

-- ---- the words of the page

cells-some : (n : ℕ) (s : Sample) → accepts (sample_verdict n s) ≡ true → 0 < n
cells-some zero s e = clash e (ap accepts (sample-none zero s refl))
cells-some (suc n) s e = zero-lt-suc n

page-taken : (v : Verdict) (bytes : List ℕ) → judged bytes ≡ v → 0 < (loaded_with v bytes).settings.rules.n → judged bytes ≡ Accepted
unfolding no_settings
page-taken (Ok done) bytes e h = e
page-taken (Err r) bytes e h = absurd (omega arith)

-- Only a pack with an accepted page accepts a sample.
sample-page : (bytes : List ℕ) (s : Sample) → accepts (sample_verdict (page_of bytes).rules.n s) ≡ true → judged bytes ≡ Accepted
unfolding loaded_of
sample-page bytes s t = page-taken (judged bytes) bytes refl (cells-some (page_of bytes).rules.n s t)

-- So the page is accepted wherever there is a sample.
pub samples-page : (bytes : List ℕ) (es : List Event) → 0 < length (samples bytes es) → judged bytes ≡ Accepted
unfolding past_of
samples-page bytes [] h = absurd (omega arith)
samples-page bytes (offer s ∷ es) h =
    by-test (accepts (sample_verdict (page_of bytes).rules.n s))
    (λ t. sample-page bytes s t)
    (λ t. samples-page bytes es (rw (behind bytes es s false t) at h))
samples-page bytes (command c ∷ es) h = samples-page bytes es (rw (samples-command bytes es c) at h)

module _ (bytes : List ℕ) (taken : judged bytes ≡ Accepted) where
  -- n, K and R are words 1, 2 and 3.
  pub word-1 : (page_of bytes).rules.n ≡ word_at bytes 1
  unfolding settings_of rules_of
  word-1 = rw (page-accepted bytes taken)

  pub word-2 : (page_of bytes).rules.k ≡ word_at bytes 2
  unfolding settings_of rules_of
  word-2 = rw (page-accepted bytes taken)

  pub word-3 : (page_of bytes).rules.r ≡ word_at bytes 3
  unfolding settings_of rules_of
  word-3 = rw (page-accepted bytes taken)

  module _ (p : ℕ) (inside : p < page_protections bytes) where
    limits-are : limits_at (page_of bytes).limits p ≡ limits_from bytes p
    unfolding settings_of
    limits-are = rw (page-accepted bytes taken) (limits-own bytes p inside)

    -- N, M and the mask of protection p are words 18 + 5p, 19 + 5p and 20 + 5p.
    word-n : (limits_at (page_of bytes).limits p).n ≡ word_at bytes (18 + 5 * p)
    unfolding limits_from
    word-n = ap (λ (l : Limits). l.n) limits-are ∙ ap (word_at bytes) (omega arith)

    word-m : (limits_at (page_of bytes).limits p).m ≡ word_at bytes (19 + 5 * p)
    unfolding limits_from
    word-m = ap (λ (l : Limits). l.m) limits-are ∙ ap (word_at bytes) (omega arith)

    word-mask : (limits_at (page_of bytes).limits p).mask ≡ word_at bytes (20 + 5 * p)
    unfolding limits_from
    word-mask = ap (λ (l : Limits). l.mask) limits-are ∙ ap (word_at bytes) (omega arith)

    tripping : trips (row_at p) (limits_at (page_of bytes).limits p) ≡ trips (row_at p) (limits_from bytes p)
    tripping = ap (λ (l : Limits). trips (row_at p) l) limits-are

    qualifying : qualifies (row_at p) (limits_at (page_of bytes).limits p) ≡ qualifies (row_at p) (limits_from bytes p)
    qualifying = ap (λ (l : Limits). qualifies (row_at p) l) limits-are

-- ---- protections

-- Bit p of the raised field is set exactly if the history says that protection p is raised.
pub raised-bit : (bytes : List ℕ) (es : List Event) (p : ℕ) → p < protections
    → has_bit (shown bytes es).raised p ≡ raised (row_at p) (limits_at (page_of bytes).limits p) (samples bytes es)
unfolding decision_after
raised-bit bytes es p inside =
    ap (λ (d : Decision). has_bit d.raised p) (shown-is bytes es) ∙ raised_word_after-has (page_of bytes).limits (samples bytes es) p inside

-- Without a sample nothing is raised.
none-yet : (row : Row) (l : Limits) (h : List Sample) → (0 < length h → raised row l h ≡ false) → raised row l h ≡ false
unfolding raised
none-yet row l [] f = refl
none-yet row l (s ∷ h) f = f (zero-lt-suc (length h))

-- A protection that the page does not have is never raised, whatever the bytes and the calls are: "On a 128-byte page 8 and 9 never rise."
pub never-after : (bytes : List ℕ) (es : List Event) (p : ℕ) → page_protections bytes ≤ p → p < protections
    → raised_after (page_of bytes).limits (samples bytes es) p ≡ false
unfolding settings_of
never-after bytes es p past inside =
    none-yet (row_at p) (limits_at (page_of bytes).limits p) (samples bytes es) (λ some.
    rw (page-accepted bytes (samples-page bytes es some)) (never-rises bytes (samples bytes es) p past inside))

-- Nor is its bit ever shown.
pub never-shown : (bytes : List ℕ) (es : List Event) (p : ℕ) → page_protections bytes ≤ p → has_bit (shown bytes es).raised p ≡ false
unfolding decision_after raised_word_after
never-shown bytes es p past =
    by-order p protections
    (λ inside. raised-bit bytes es p inside ∙ never-after bytes es p past inside)
    (λ out. ap (λ (d : Decision). has_bit d.raised p) (shown-is bytes es)
    ∙ bits-past (raised_after (page_of bytes).limits (samples bytes es)) protections p out)

-- So the raised field is the word over the page's own protections.
pub raised-own : (bytes : List ℕ) (es : List Event)
    → (shown bytes es).raised ≡ bits_of (raised_after (page_of bytes).limits (samples bytes es)) (page_protections bytes)
unfolding decision_after
raised-own bytes es =
    ap (λ (d : Decision). d.raised) (shown-is bytes es)
    ∙ raised_word_after-short (page_of bytes).limits (samples bytes es) (page_protections bytes) (most-protections bytes) (never-after bytes es)

-- At the load nothing is raised.
pub clear-at-load : (bytes : List ℕ) → (shown bytes []).raised ≡ 0
unfolding decision_after past_of raised_word_after raised bits_of with_bit_if
clear-at-load bytes = ap (λ (d : Decision). d.raised) (shown-is bytes [])

-- A command raises and releases nothing.
pub command-raises-none : (bytes : List ℕ) (es : List Event) (c : ℕ) → (shown bytes (command c ∷ es)).raised ≡ (shown bytes es).raised
unfolding decision_after
command-raises-none bytes es c =
    ap (λ (d : Decision). d.raised) (shown-is bytes (command c ∷ es))
    ∙ ap (raised_word_after (page_of bytes).limits) (samples-command bytes es c)
    ∙ sym (ap (λ (d : Decision). d.raised) (shown-is bytes es))

-- At an accepted sample, for a protection that the page has.
module _ (bytes : List ℕ) (es : List Event) (s : Sample) (taken : (offered (after bytes es) s).verdict ≡ Accepted)
    (p : ℕ) (own : p < page_protections bytes) where
  inside : p < protections
  inside = let most = most-protections bytes in omega arith

  abbrev l : Limits
  l = limits_at (page_of bytes).limits p

  abbrev latest : List Sample
  latest = samples bytes (offer s ∷ es)

  accepted : judged bytes ≡ Accepted
  accepted = sample-page bytes s (ap accepts (sym (verdict-is bytes es s) ∙ taken))

  now : has_bit (shown bytes (offer s ∷ es)).raised p ≡ raised (row_at p) l (trimmed s ∷ samples bytes es)
  now = raised-bit bytes (offer s ∷ es) p inside ∙ ap (raised (row_at p) l) (samples-with bytes es s taken)

  -- A clear one is raised at an accepted sample exactly if its last N all trip, this one included.
  pub raise-when : has_bit (shown bytes es).raised p ≡ false
      → has_bit (shown bytes (offer s ∷ es)).raised p ≡ last_all (word_at bytes (18 + 5 * p)) (trips (row_at p) (limits_from bytes p)) latest
  raise-when e =
      now
      ∙ raised-when (row_at p) l (trimmed s) (samples bytes es) (sym (raised-bit bytes es p inside) ∙ e)
      ∙ ap (last_all l.n (trips (row_at p) l)) (sym (samples-with bytes es s taken))
      ∙ ap₂ (λ (n : ℕ) (test : Sample → Bool). last_all n test latest) (word-n bytes accepted p own) (tripping bytes accepted p own)

  -- A raised one is released exactly if its last M all qualify.
  pub release-when : has_bit (shown bytes es).raised p ≡ true
      → has_bit (shown bytes (offer s ∷ es)).raised p
      ≡ not (last_all (word_at bytes (19 + 5 * p)) (qualifies (row_at p) (limits_from bytes p)) latest)
  release-when e =
      now
      ∙ released-when (row_at p) l (trimmed s) (samples bytes es) (sym (raised-bit bytes es p inside) ∙ e)
      ∙ ap (λ (h : List Sample). not (last_all l.m (qualifies (row_at p) l) h)) (sym (samples-with bytes es s taken))
      ∙ ap₂ (λ (m : ℕ) (test : Sample → Bool). not (last_all m test latest)) (word-m bytes accepted p own) (qualifying bytes accepted p own)

-- ---- switches

-- Bit 0 of the fets field is the charge switch, bit 1 the discharge switch.
pub switch-bit : (bytes : List ℕ) (es : List Event) (switch : ℕ) → switch < 2
    → has_bit (shown bytes es).fets switch ≡ switch_after (page_of bytes) (past_after bytes es) switch
unfolding decision_after
switch-bit bytes es switch h =
    ap (λ (d : Decision). has_bit d.fets switch) (shown-is bytes es) ∙ own-bit (switch_after (page_of bytes) (past_after bytes es)) switch h

none-picked : (test : ℕ → Bool) (n : ℕ) → ((p : ℕ) → p < n → test p ≡ false) → any_of test n ≡ false
unfolding any_of
none-picked test zero h = refl
none-picked test (suc n) h = rw (none-picked test n (λ p q. h p (omega arith)), h n (omega arith))

any-some : (h : List Sample) → any_sample h ≡ true → 0 < length h
any-some [] e = absurd (true≢false (sym e))
any-some (s ∷ h) e = zero-lt-suc (length h)

some-any : (h : List Sample) → 0 < length h → any_sample h ≡ true
some-any [] e = absurd (omega arith)
some-any (s ∷ h) e = refl

module _ (bytes : List ℕ) (es : List Event) (switch : ℕ) where
  -- Protection p is raised and has the switch's bit in its mask.
  abbrev blocks : ℕ → Bool
  blocks p = raised_after (page_of bytes).limits (samples bytes es) p && has_bit (limits_at (page_of bytes).limits p).mask switch

  abbrev sampled : Bool
  sampled = any_sample (samples bytes es)

  abbrev commanded : Bool
  commanded = has_bit (past_after bytes es).standing switch

  -- A sample has been accepted, the switch's bit is commanded, and no protection of the page whose bit is shown as raised has it in its
  -- mask, word 20 + 5p of the page.
  abbrev pub MayBeOn : Type 0
  MayBeOn =
      (0 < length (samples bytes es))
      × (has_bit (past_after bytes es).standing switch ≡ true)
      × ((p : ℕ) → p < page_protections bytes → has_bit (shown bytes es).raised p ≡ true → has_bit (word_at bytes (20 + 5 * p)) switch ≡ false)

  mask-bit : 0 < length (samples bytes es) → (p : ℕ) → p < page_protections bytes
      → has_bit (limits_at (page_of bytes).limits p).mask switch ≡ has_bit (word_at bytes (20 + 5 * p)) switch
  mask-bit some p inside = ap (λ (m : ℕ). has_bit m switch) (word-mask bytes (samples-page bytes es some) p inside)

  may : sampled && commanded && not (any_of blocks protections) ≡ true → MayBeOn
  may e =
      let a = and-left (sampled && commanded) (not (any_of blocks protections)) e in
      let none = not-true (any_of blocks protections) (and-right (sampled && commanded) (not (any_of blocks protections)) e) in
      let some = any-some (samples bytes es) (and-left sampled commanded a) in (
        some,
        and-right sampled commanded a,
        λ p own up.
            let most = most-protections bytes in
            let inside : p < protections = omega arith in
            by-test (has_bit (word_at bytes (20 + 5 * p)) switch)
            (λ t. clash (any-yes blocks protections p inside (rw (sym (raised-bit bytes es p inside) ∙ up, mask-bit some p own ∙ t))) none)
            (λ t. t),
      )

  must : MayBeOn → sampled && commanded && not (any_of blocks protections) ≡ true
  must m =
      rw (
        some-any (samples bytes es) m.0,
        m.1,
        none-picked blocks protections (λ p inside. by-test (raised_after (page_of bytes).limits (samples bytes es) p)
            (λ t. by-order p (page_protections bytes)
            (λ own. rw (t, mask-bit m.0 p own ∙ m.2 p own (raised-bit bytes es p inside ∙ t)))
            (λ past. clash t (never-after bytes es p past inside)))
            (λ t. rw t)),
      )

  pub on-exactly : switch < 2 → (has_bit (shown bytes es).fets switch ≡ true) ↔ MayBeOn
  unfolding blocks_after
  on-exactly h = (λ e. may (sym (switch-bit bytes es switch h) ∙ e), λ m. switch-bit bytes es switch h ∙ must m)

-- ---- a raised protection stops all bleeding

nobody-wants : (page : Settings) (s : Sample) (h : List Sample) → any_raised_after page.limits (s ∷ h) ≡ true
    → (k : ℕ) → wish_at page s h k ≡ false
unfolding wish_at wishes wants
nobody-wants page s h e k =
    by-test (is_charging page.rules.detection s.current) (λ t. rw (t, e)) (λ t. rw t)

-- Where nobody wants, nobody is bled.
pub none-wanting : (page : Settings) (s : Sample) (h : List Sample) → ((k : ℕ) → wish_at page s h k ≡ false) → bled_after page (s ∷ h) ≡ 0
unfolding bled_after bled_word_after wishes_after
none-wanting page s h none =
    ap cells_word (walk-none page.rules.k (wish_at page s h) (resting page.rules.r (bleds_after page h)) none
    (order page.rules.n (start_cell page.rules.n (length (wishes_after page h)))) [])

none-bled : (page : Settings) (h : List Sample) → (raised_word_after page.limits h ≡ 0 → ⊥) → bled_after page h ≡ 0
unfolding bled_after bled_word_after wishes_after
none-bled page [] some = refl
none-bled page (s ∷ h) some =
    let up : any_raised_after page.limits (s ∷ h) ≡ true =
    any_raised_after-word page.limits (s ∷ h) ∙ rw (ne_eqb (raised_word_after page.limits (s ∷ h)) 0 some) in
    none-wanting page s h (nobody-wants page s h up)

-- While anything is raised, whatever its mask, nothing is bled.
pub raised-stops : (bytes : List ℕ) (es : List Event) → ((shown bytes es).raised ≡ 0 → ⊥) → (shown bytes es).balance ≡ 0
unfolding decision_after
raised-stops bytes es some =
    shown-balance bytes es
    ∙ none-bled (page_of bytes) (samples bytes es) (λ e. some (ap (λ (d : Decision). d.raised) (shown-is bytes es) ∙ e))
