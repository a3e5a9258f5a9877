-- What a page, a sample, a command, a reply and a line are answered with: each refusal exactly when its row says, and what it leaves as it
-- was.
-- Assumes nothing.
use Rattle.std.specs.Prelude.{◌≡◌, Ok, Err, true, false, List, ◌⊎◌, ◌↔◌, ℕ}
use Rattle.std.proofs.Math.Path.{refl}
use Rattle.std.proofs.Common.{true≢false, inl, inr}
use Rattle.refusals.specs.Refusals.{Refusal, NoFault, Lowest, none-exactly, refuse-exactly}
use Rattle.refusals.specs.Verdicts.{Verdict, Accepted, Refused}
use Rattle.page_judge.specs.Exactly.{refused-not, refused-one}
use Rattle.sample.specs.declared.Sample.{Sample}
use Rattle.pack_refusals.specs.Samples.{sample_refusals, sample_verdict, command_refusals, command_verdict}
use Rattle.pack_state.specs.declared.Pack.{Pack}
use Rattle.pack.specs.Answers.{offered, commanded}
use Rattle.bus.specs.Replied.{Replied}
use Rattle.bus.specs.Replied as reply
use Rattle.log_entries.specs.declared.Entry.{Entry}
use Rattle.log_entries.specs.declared.Entry.TheVariants.{Offer, Command, Malformed}
use Rattle.log_entries.specs.Entry.{kind_of, read_entry}
use Rattle.log_answers.specs.Told as told
use Rattle.log_answers.specs.Tell.{told_of, answered_as, outcome_of, tell}

-- ---- an answer

-- Accepted, and no row of the table applies; or refused with the lowest number that applies, and its lowest word at fault.
abbrev pub IsAnswered : Verdict → List Refusal → Type 0
IsAnswered v rows = ((v ≡ Accepted) × NoFault rows) ⊎ ((k : ℕ) × (w : ℕ) × (v ≡ Refused k w) × Lowest rows k w)

pub is-answered : (v : Verdict) (rows : List Refusal) → ((v ≡ Accepted) ↔ NoFault rows)
    → ((k w : ℕ) → (v ≡ Refused k w) ↔ Lowest rows k w) → IsAnswered v rows
is-answered (Ok done) rows none some = inl (refl, none.0 refl)
is-answered (Err r) rows none some = inr (r.number, r.word, refl, (some r.number r.word).0 refl)

-- The same for a reply, whose refusals name word 0.
abbrev pub IsReplied : Replied → List Refusal → Type 0
IsReplied r rows = ((r ≡ reply.Sent) × NoFault rows) ⊎ ((k : ℕ) × (r ≡ reply.Refused k) × Lowest rows k 0)

pub is-replied : (r : Replied) (rows : List Refusal) → ((r ≡ reply.Sent) ↔ NoFault rows)
    → ((k : ℕ) → (r ≡ reply.Refused k) ↔ Lowest rows k 0) → IsReplied r rows
is-replied (Ok done) rows none some = inl (refl, none.0 refl)
is-replied (Err k) rows none some = inr (k, refl, (some k).0 refl)

-- ---- samples and commands

module _ (p : Pack) (s : Sample) where
  -- A sample is accepted exactly if no row of the table applies,
  pub sample-accepted-exactly : ((offered p s).verdict ≡ Accepted) ↔ NoFault (sample_refusals p.rules.n s)
  unfolding offered sample_verdict sample_refusals
  sample-accepted-exactly = none-exactly Refused Accepted refused-not refused-one 9 (sample_refusals p.rules.n s) refl

  -- and refused with a number exactly if its row applies and no lower row does.
  pub sample-refused-exactly : (k w : ℕ) → ((offered p s).verdict ≡ Refused k w) ↔ Lowest (sample_refusals p.rules.n s) k w
  unfolding offered sample_verdict sample_refusals
  sample-refused-exactly = refuse-exactly Refused Accepted refused-not refused-one 9 (sample_refusals p.rules.n s) refl

  -- A refused sample leaves the state as it was, every field.
  pub refused-sample-untouched : (k w : ℕ) → (offered p s).verdict ≡ Refused k w → (offered p s).pack ≡ p
  unfolding offered
  refused-sample-untouched k w e = rw e

-- The same for a switch command.
module _ (p : Pack) (c : ℕ) where
  pub command-accepted-exactly : ((commanded p c).verdict ≡ Accepted) ↔ NoFault (command_refusals c)
  unfolding commanded command_verdict command_refusals
  command-accepted-exactly = none-exactly Refused Accepted refused-not refused-one 16 (command_refusals c) refl

  pub command-refused-exactly : (k w : ℕ) → ((commanded p c).verdict ≡ Refused k w) ↔ Lowest (command_refusals c) k w
  unfolding commanded command_verdict command_refusals
  command-refused-exactly = refuse-exactly Refused Accepted refused-not refused-one 16 (command_refusals c) refl

  pub refused-command-untouched : (k w : ℕ) → (commanded p c).verdict ≡ Refused k w → (commanded p c).pack ≡ p
  unfolding commanded
  refused-command-untouched k w e = rw e

-- ---- lines

-- A refused line leaves the pack as it was.
pub refused-line-untouched : (p : Pack) (line : List ℕ) (k : ℕ) → (tell p line).told ≡ told.Refused k → (tell p line).pack ≡ p
unfolding tell outcome_of
refused-line-untouched p line k = by-entry (read_entry line)
  where
    told-refused : (v : Verdict) (q : Pack) → told_of v q ≡ told.Refused k → ((j w : ℕ) → v ≡ Refused j w → q ≡ p) → q ≡ p
    told-refused (Ok done) q e kept = absurd (let z : true ≡ false = cc in true≢false z)
    told-refused (Err r) q e kept = kept r.number r.word refl

    by-entry : (e : Entry) → (outcome_of (kind_of e) (answered_as p e)).told ≡ told.Refused k
        → (outcome_of (kind_of e) (answered_as p e)).pack ≡ p
    by-entry (Offer s) t = told-refused _ _ t (refused-sample-untouched p s)
    by-entry (Command c) t = told-refused _ _ t (refused-command-untouched p c)
    by-entry Malformed t = refl
