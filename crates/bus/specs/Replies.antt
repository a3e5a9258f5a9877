-- Replies: document 01's refusals 12 to 15, the three bytes of a word, and what stands in the lent buffer afterwards.
-- Assumes nothing.
use Rattle.std.specs.Prelude.{◌≡◌, refl, Bool, not, ◌&&◌, List, [], ◌∷◌, ℕ, ◌/◌, ◌%◌, ltb, length, set, Some, None, Ok, Err}
use Rattle.std.proofs.Math.Path.{ap}
use Rattle.std.proofs.Common.{◌∙◌, true≢false, arith}
use Rattle.std.proofs.Math.Bool.{true, false}
use borrow.Author.Tests.{eqb-true, eq-eqb, ne_eqb}
use Rattle.std.proofs.Math.Dec.{eqb}
use Rattle.laws.specs.Tests.{by-test}
use Rattle.crc.specs.CheckByte.{check_byte}
use Rattle.refusals.specs.Refusals.{rule, Refusal, refusal, Answer, answer, first, given, first-map}
use Rattle.page_settings.specs.declared.Settings.{Settings}
use Rattle.pack_state.specs.declared.Pack.{Pack}
use Rattle.pack_state.specs.Past.{Past}
use Rattle.pack_state.specs.State.{any_sample}
use Rattle.bus_table.specs.Sends.{Sends}
use Rattle.bus_table.specs.declared.Sends.TheVariants.{Cell, Whole}
use Rattle.bus.specs.declared.answer.Framed.{Framed}
use Rattle.bus.specs.Replied.{Replied, Sent, Refused}
use Rattle.bus_table.specs.Table.{row_of_command}
use Rattle.bus_words.specs.Words.{sent_word, word_after, said_of}

-- ---- refusals

-- The number and the word of an answer: a refused reply names word 0, and a reply that is sent has number 0.
abbrev pub answer_of_reply : Replied → Answer
answer_of_reply (Ok done) = answer 0 0
answer_of_reply (Err number) = answer number 0

-- "Command not in the table."
unfoldable pub not_in_table : Sends → Bool
not_in_table None = true
not_in_table (Some (Cell k)) = false
not_in_table (Some (Whole w)) = false

-- "Cell command for a cell above n."
unfoldable pub cell_above : ℕ → Sends → Bool
cell_above n None = false
cell_above n (Some (Cell k)) = ltb n k.0
cell_above n (Some (Whole w)) = false

-- A row of the table: its number is given if the test holds.
abbrev pub given_if : ℕ → Bool → Refusal
given_if number test = refusal number (rule 0 (not test) ∷ [])

-- The rows for a command to a pack of n cells, with or without a sample, and a buffer of `room` bytes. In a pack without a page n is 0
-- and there is no sample: each cell command gives 13, and 0x41 alone can be answered, with mode 0.
unfoldable pub reply_refusals : ℕ → Bool → ℕ → ℕ → List Refusal
reply_refusals n sampled c room =
    given_if 12 (not_in_table (row_of_command c))
    ∷ given_if 13 (cell_above n (row_of_command c))
    ∷ given_if 14 (not (eqb room 3))
    ∷ given_if 15 (not sampled && not (eqb c 0x41))
    ∷ []

-- The lowest number that applies is given; what no row fits is answered.
unfoldable pub answer_for : ℕ → Bool → ℕ → ℕ → Replied
answer_for n sampled c room = first (λ (number word : ℕ). Refused number) Sent (reply_refusals n sampled c room)

-- ---- bytes

-- "A reply is three bytes: low, high, and the check byte of 0x16, the command, 0x17, low, high."
unfoldable pub frame_of : ℕ → ℕ → Framed
frame_of c w =
    let low : ℕ = w % 256 in
    let high : ℕ = w / 256 in
    record { low = low; high = high; check = check_byte (0x16 ∷ c ∷ 0x17 ∷ low ∷ high ∷ []) }

abbrev pub bytes_of : Framed → List ℕ
bytes_of f = f.low ∷ f.high ∷ f.check ∷ []

-- What stands in the buffer b afterwards: the three bytes, or after a refusal what stood there before.
abbrev pub bytes_for : Replied → Framed → List ℕ → List ℕ
bytes_for (Ok done) f b = bytes_of f
bytes_for (Err number) f b = b

-- Only to a buffer of three bytes anything is sent.
abbrev pub Fitting : Replied → List ℕ → Type 0
Fitting r b = r ≡ Sent → length b ≡ 3

-- A word for a command of which the caller answers for 12, 13 and 15: only its buffer can refuse it.
unfoldable pub word_refusals : ℕ → List Refusal
word_refusals room = given_if 14 (not (eqb room 3)) ∷ []

unfoldable pub word_answer : ℕ → Replied
word_answer room = first (λ (number word : ℕ). Refused number) Sent (word_refusals room)

unfoldable pub word_buffer : ℕ → ℕ → List ℕ → List ℕ
word_buffer c w b = bytes_for (word_answer (length b)) (frame_of c w) b

-- ---- from the page and the past

unfoldable pub answer_after : Settings → Past → ℕ → ℕ → Replied
answer_after page p c room = answer_for page.rules.n (any_sample p.history) c room

unfoldable pub buffer_after : Settings → Past → ℕ → List ℕ → List ℕ
buffer_after page p c b = bytes_for (answer_after page p c (length b)) (frame_of c (word_after page p c)) b

-- ---- from the state

abbrev pub refusals_of : Pack → ℕ → ℕ → List Refusal
refusals_of p c room = reply_refusals p.rules.n p.sampled c room

unfoldable pub answer_to : Pack → ℕ → ℕ → Replied
answer_to p c room = answer_for p.rules.n p.sampled c room

unfoldable pub buffer_of : Pack → ℕ → List ℕ → List ℕ
buffer_of p c b = bytes_for (answer_to p c (length b)) (frame_of c (sent_word (said_of p) (row_of_command c))) b

-- ---- what the code needs of them

-- The number and word of an answer are the table's.
pub answer-given : (p : Pack) (c room : ℕ) (r : Replied) → r ≡ answer_to p c room
    → (r ≡ answer_to p c room) × (answer_of_reply r ≡ given (refusals_of p c room))
unfolding answer_to answer_for reply_refusals
answer-given p c room r e =
    (e, ap answer_of_reply e ∙ first-map answer_of_reply (λ (number word : ℕ). Refused number) Sent (refusals_of p c room))

-- The same for a word, and what then stands in the buffer b: it has three bytes, or any other number.
module _ (c w : ℕ) (b : List ℕ) where
  word-given : (r : Replied) → r ≡ word_answer (length b) → (r ≡ word_answer (length b)) × (answer_of_reply r ≡ given (word_refusals (length b)))
  unfolding word_answer word_refusals
  word-given r e =
      (e, ap answer_of_reply e ∙ first-map answer_of_reply (λ (number word : ℕ). Refused number) Sent (word_refusals (length b)))

  pub word-sent : (f : Framed) (e : List ℕ) → length b ≡ 3 → f ≡ frame_of c w → e ≡ bytes_for Sent f b
      → ((Sent ≡ word_answer (length b)) × (answer_of_reply Sent ≡ given (word_refusals (length b)))) × (e ≡ word_buffer c w b)
  unfolding word_answer word_refusals word_buffer
  word-sent f e h g q =
      let t : eqb (length b) 3 ≡ true = eq-eqb (length b) 3 h in
      (word-given Sent (rw t), rw t (q ∙ ap bytes_of g))

  pub word-not : (length b ≡ 3 → ⊥)
      → ((Refused 14 ≡ word_answer (length b)) × (answer_of_reply (Refused 14) ≡ given (word_refusals (length b)))) × (b ≡ word_buffer c w b)
  unfolding word_answer word_refusals word_buffer
  word-not h =
      let t : eqb (length b) 3 ≡ false = ne_eqb (length b) 3 h in
      (word-given (Refused 14) (rw t), rw t)

-- Three bytes put into a buffer of three.
pub three-put : (b : List ℕ) (x y z : ℕ) → length b ≡ 3 → set (set (set b 0 x) 1 y) 2 z ≡ x ∷ y ∷ z ∷ []
three-put [] x y z e = absurd (omega arith)
three-put (p ∷ []) x y z e = absurd (omega arith)
three-put (p ∷ q ∷ []) x y z e = absurd (omega arith)
three-put (p ∷ q ∷ r ∷ []) x y z e = refl
three-put (p ∷ q ∷ r ∷ s ∷ b) x y z e = absurd (omega arith)

pub sent-not : (number : ℕ) → Refused number ≡ Sent → ⊥
sent-not number e = let z : true ≡ false = cc in true≢false z

-- What is sent goes into a buffer of three bytes.
pub sent-room : (n : ℕ) (sampled : Bool) (c room : ℕ) → answer_for n sampled c room ≡ Sent → room ≡ 3
unfolding answer_for reply_refusals
sent-room n sampled c room e =
    by-test (eqb room 3)
    (λ t. eqb-true room 3 t)
    (λ t. absurd (by-test (not_in_table (row_of_command c))
    (λ u. sent-not 12 (rw u at e))
    (λ u. by-test (cell_above n (row_of_command c))
    (λ v. sent-not 13 (rw (u, v) at e))
    (λ v. sent-not 14 (rw (u, v, t) at e)))))
