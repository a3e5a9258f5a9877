-- DEMANDS 1 AND 2 ON THE BUS, the replies: after a load of any bytes and any events since, the answer to each command and the buffer
-- afterwards are what document 01 says of the page and the past, and each refusal is given exactly when its row says.
-- Assumes nothing.
use Rattle.std.specs.Prelude.{◌≡◌, Bool, List, ◌↔◌, ℕ, length, Ok, Err}
use Rattle.std.proofs.Math.Path.{refl, ap, ap₂}
use Rattle.std.proofs.Common.{sym, ◌∙◌}
use Rattle.refusals.specs.Refusals.{NoFault, Lowest, first, none-exactly, refuse-exactly, first-map}
use Rattle.page_judge.specs.Exactly.{refused-not, refused-one}
use Rattle.refusals.specs.Verdicts.{Verdict, Accepted, Refused as PageRefused}
use Rattle.pack_state.specs.declared.Pack.{Pack}
use Rattle.pack.specs.Events.{Event}
use Rattle.pack_state.specs.State.{state_after}
use Rattle.pack.specs.Kept.{page_of, past_after, pack_after}
use Rattle.pack.specs.After.{after}
use Rattle.pack.proofs.After.{after-is}
use Rattle.bus.specs.Replied.{Replied, Sent, Refused}
use Rattle.bus_table.specs.Table.{row_of_command}
use Rattle.bus_words.specs.Words.{sent_word, said_of}
use Rattle.bus_words.proofs.Demands.{word-is}
use Rattle.bus.specs.Replies.{reply_refusals, answer_for, frame_of, bytes_of, bytes_for, answer_after, buffer_after, answer_to, buffer_of}

-- ---- after any load and calls

module _ (bytes : List ℕ) (es : List Event) where
  -- The answer to every command, for a buffer of any length,
  pub answer-is : (c room : ℕ) → answer_to (after bytes es) c room ≡ answer_after (page_of bytes) (past_after bytes es) c room
  unfolding pack_after state_after answer_to answer_after
  answer-is c room = ap (λ (p : Pack). answer_to p c room) (after-is bytes es)

  -- and what then stands in the buffer.
  pub buffer-is : (c : ℕ) (b : List ℕ) → buffer_of (after bytes es) c b ≡ buffer_after (page_of bytes) (past_after bytes es) c b
  unfolding buffer_of buffer_after
  buffer-is c b =
      ap₂ (λ (r : Replied) (w : ℕ). bytes_for r (frame_of c w) b) (answer-is c (length b)) (word-is bytes es c)

-- ---- each refusal exactly when its row says

-- A reply's answer as a verdict that names word 0.
abbrev pub verdict_of : Replied → Verdict
verdict_of (Ok done) = Accepted
verdict_of (Err number) = PageRefused number 0

pub verdict-one : (r q : Replied) → verdict_of r ≡ verdict_of q → r ≡ q
verdict-one (Ok done) (Ok end) e = refl
verdict-one (Ok done) (Err k) e = absurd (refused-not k 0 (sym e))
verdict-one (Err k) (Ok done) e = absurd (refused-not k 0 e)
verdict-one (Err k) (Err j) e = ap Refused (refused-one k 0 j 0 e).0

module _ (n : ℕ) (sampled : Bool) (c room : ℕ) where
  as-verdict : verdict_of (answer_for n sampled c room) ≡ first PageRefused Accepted (reply_refusals n sampled c room)
  unfolding answer_for reply_refusals
  as-verdict = first-map verdict_of (λ (number word : ℕ). Refused number) Sent (reply_refusals n sampled c room)

  through : (r : Replied) → (answer_for n sampled c room ≡ r) ↔ (first PageRefused Accepted (reply_refusals n sampled c room) ≡ verdict_of r)
  through r = (λ e. sym as-verdict ∙ ap verdict_of e, λ e. verdict-one (answer_for n sampled c room) r (as-verdict ∙ e))

  -- A command is answered exactly if no row applies,
  pub sent-exactly : (answer_for n sampled c room ≡ Sent) ↔ NoFault (reply_refusals n sampled c room)
  unfolding reply_refusals
  sent-exactly =
      let t = through Sent in
      let x = none-exactly PageRefused Accepted refused-not refused-one 12 (reply_refusals n sampled c room) refl in
      (λ e. x.0 (t.0 e), λ f. t.1 (x.1 f))

  -- and refused with a number exactly if its row applies and no lower row does.
  pub refused-exactly : (k : ℕ) → (answer_for n sampled c room ≡ Refused k) ↔ Lowest (reply_refusals n sampled c room) k 0
  unfolding reply_refusals
  refused-exactly k =
      let t = through (Refused k) in
      let x = refuse-exactly PageRefused Accepted refused-not refused-one 12 (reply_refusals n sampled c room) refl k 0 in
      (λ e. x.0 (t.0 e), λ f. t.1 (x.1 f))

-- A refusal leaves the buffer as it was, whatever its length;
pub refused-untouched : (p : Pack) (c k : ℕ) (b : List ℕ) → answer_to p c (length b) ≡ Refused k → buffer_of p c b ≡ b
unfolding buffer_of
refused-untouched p c k b e = rw e

-- what is sent are the three bytes of the command's word, and nothing else.
pub sent-bytes : (p : Pack) (c : ℕ) (b : List ℕ) → answer_to p c (length b) ≡ Sent
    → buffer_of p c b ≡ bytes_of (frame_of c (sent_word (said_of p) (row_of_command c)))
unfolding buffer_of
sent-bytes p c b e = rw e
