-- What a line of the log is answered with, and the pack behind it: document 01, "The replay program" and "Refusal numbers".
-- Assumes nothing.
use Rattle.std.specs.Prelude.{ℕ, ◌<◌, ◌≡◌, refl, false, List, [], ◌∷◌, length, Ok, Err}
use Rattle.std.proofs.Common.{ap, ◌∙◌}
use Rattle.refusals.specs.Refusals.{Refusal, refusal, whole}
use Rattle.refusals.specs.Verdicts.{Verdict}
use Rattle.refusals.specs.Verdicts as verdict
use Rattle.pack_refusals.specs.Samples.{sample_refusals, command_refusals}
use Rattle.pack_state.specs.declared.Pack.{Pack}
use Rattle.pack.specs.declared.Answered.{Answered}
use Rattle.pack.specs.Kept.{Kept}
use Rattle.pack.specs.Answers.{offered, commanded, answered}
use Rattle.pack_shown.specs.Shown.{decision_of}
use Rattle.log_entries.specs.declared.Kind.{Kind}
use Rattle.log_entries.specs.declared.Kind.TheVariants as kind
use Rattle.log_entries.specs.declared.Entry.{Entry}
use Rattle.log_entries.specs.declared.Entry.TheVariants.{Offer, Command, Malformed}
use Rattle.log_entries.specs.Entry.{kind_of, read_entry}
use Rattle.log_entries.proofs.Reading.{overlong}
use Rattle.log_answers.specs.Told.{Told, Decided, Refused}
use Rattle.log_answers.specs.declared.Outcome.{Outcome}

abbrev pub outcome : Kind → Told → Pack → Outcome
outcome k t p = record { kind = k; told = t; pack = p }

-- An accepted sample or command gives the decision of the pack behind it. "A refused line gives `refused` and the number."
abbrev pub told_of : Verdict → Pack → Told
told_of (Ok tt) p = Decided (decision_of p)
told_of (Err r) p = Refused r.number

unfoldable pub outcome_of : Kind → Answered → Outcome
outcome_of k a = outcome k (told_of a.verdict a.pack) a.pack

-- "A malformed line is no sample and no command: it gives 17, whatever other row seems to fit."
abbrev pub answered_as : Pack → Entry → Answered
answered_as p (Offer s) = offered p s
answered_as p (Command c) = commanded p c
answered_as p Malformed = answered (verdict.Refused 17 0) p

-- The rows for a line: those of its sample or of its command, and 17 for a malformed one, which names word 0.
abbrev pub line_refusals : Pack → Entry → List Refusal
line_refusals p (Offer s) = sample_refusals p.rules.n s
line_refusals p (Command c) = command_refusals c
line_refusals p Malformed = refusal 17 (whole false) ∷ []

-- What a line that was read does to a pack.
abbrev pub tell_entry : Pack → Entry → Outcome
tell_entry p e = outcome_of (kind_of e) (answered_as p e)

-- What a line does to a pack.
unfoldable pub tell : Pack → List ℕ → Outcome
tell p line = tell_entry p (read_entry line)

-- The kind of a line is told by its bytes alone: a sample was accepted exactly where it is `Offer` and the answer a decision.
pub tell-kind : (p : Pack) (line : List ℕ) → (tell p line).kind ≡ kind_of (read_entry line)
unfolding tell outcome_of
tell-kind p line = refl

-- All lines over 128 bytes do the same.
pub tell-overlong : (p : Pack) (line : List ℕ) → 128 < length line → tell p line ≡ outcome kind.Malformed (Refused 17) p
unfolding tell outcome_of
tell-overlong p line h = ap (tell_entry p) (overlong line h)

-- The pack's answer a to the line e was told as r.
pub entry-told : (p : Pack) (e : Entry) (a : Answered) (r : Outcome) → a ≡ answered_as p e → r ≡ outcome_of (kind_of e) a
    → r ≡ tell_entry p e
unfolding outcome_of
entry-told p e a r ea er = rw (← ea) er

-- Where the answer's pack stands for some load and some events, the told one does too.
pub entry-made : (p : Pack) (e : Entry) (a : Answered) (r : Outcome) → a ≡ answered_as p e → r ≡ outcome_of (kind_of e) a → Kept a.pack
    → (r ≡ tell_entry p e) × Kept r.pack
unfolding outcome_of
entry-made p e a r ea er kept = (entry-told p e a r ea er, rw er kept)

-- The line was read as e, and that was told as r.
pub tell-read : (p : Pack) (line : List ℕ) (e : Entry) (r : Outcome) → e ≡ read_entry line → r ≡ tell_entry p e → r ≡ tell p line
unfolding tell
tell-read p line e r ee er = er ∙ ap (tell_entry p) ee

-- The line was read as e, and the pack answered a to that: so the pack behind the line is that of a.
pub pack-read : (p : Pack) (line : List ℕ) (e : Entry) (a : Answered) → e ≡ read_entry line → a ≡ answered_as p e → a.pack ≡ (tell p line).pack
unfolding tell outcome_of
pack-read p line e a ee ea = ap (λ (x : Answered). x.pack) ea ∙ ap (λ (x : Entry). (answered_as p x).pack) ee
