-- THE THREE DEMANDS: the user's sentences, one after the other, and under each the theorem that says it. They speak of what the public
-- calls answer and show: `judged` of a page; `offered`, `commanded` and `answer_to` of a pack; `tell` of a line; and `shown`, which is
-- what `decide` shows after a load of any bytes and any calls since, refused ones among them. Lists have the latest first.
-- Assumes nothing.
use Rattle.std.specs.Prelude.{◌≡◌, true, false, not, cond, List, [], ◌∷◌, ◌++◌, map, ◌↔◌, ℕ, suc, ◌+◌, ◌*◌, ◌≤◌, ◌<◌, eqb, ℤ, pos, length, drop, get_or, take, replicate}
use Rattle.std.proofs.Math.Path.{ap}
use Rattle.std.proofs.Common.{◌∙◌, arith, lt_of_lt_of_le}
use Rattle.std.specs.Int.Count.{ones}
use Rattle.laws.specs.Bits.{has_bit}
use Rattle.laws.specs.Latest.{last_all, among, last_all-le, among-le}
use Rattle.laws.specs.Words.{bits_of}
use Rattle.units.specs.Signed.{signed_of}
use Rattle.crc.specs.CheckByte.{check_byte}
use Rattle.protections.specs.Direction.{reaches, back_of}
use Rattle.protections.specs.Table.{row_at}
use Rattle.refusals.specs.Refusals.{NoFault, Lowest}
use Rattle.refusals.specs.Verdicts.{Accepted, Refused}
use Rattle.text_fields.specs.Decimal.{decimal}
use Rattle.text_numbers.specs.Numbers.{signed_text}
use Rattle.text_numbers.specs.Canonical.{InRange}
use Rattle.page_words.specs.Ranges.{word_at, level_of}
use Rattle.page_faults.specs.Kinds.{layout_of, bytes_of, check_at, kind_of}
use Rattle.page_judge.specs.Page.{refusals, judged}
use Rattle.page_judge.specs.Exactly as page
use Rattle.page_judge.specs.Enough.{Right, right-accepted}
use Rattle.page_judge.specs.Swapped.{swapped, swapped-refused}
use Rattle.page_settings.specs.Settings.{in_degrees, twice_tenths, limits_from, page_protections}
use Rattle.page_settings.specs.Good.{Good, accepted-good, short-protections}
use Rattle.sample.specs.declared.Sample.{Sample}
use Rattle.sample.specs.Cells.{no_volts, extremes_of}
use Rattle.sample.specs.Measure.{measure, trips, qualifies}
use Rattle.guard_raised.specs.Words.{raised_after, raised_word_after, blocks_after}
use Rattle.bleed_wants.specs.Steps.{volts_of}
use Rattle.bleed_wants.specs.Wants.{is_charging, wants}
use Rattle.bleed_wants.specs.Word.{holds_cell}
use Rattle.bleed.specs.Walk.History.{wants_cell}
use Rattle.pack_refusals.specs.Samples.{sample_refusals, command_refusals}
use Rattle.pack_state.specs.declared.Pack.{Pack}
use Rattle.pack_state.specs.State.{bled_after}
use Rattle.pack_state.specs.Steps.{wishes-length}
use Rattle.pack.specs.Events.{Event, offer, command}
use Rattle.pack.specs.Answers.{offered, commanded}
use Rattle.pack.specs.Kept.{page_of, past_after, pack_after, after_load}
use Rattle.pack.specs.Calls.{page-accepted}
use Rattle.pack.specs.After.{after}
use Rattle.pack.proofs.After.{after-is}
use Rattle.pack_shown.specs.declared.Decision.{Decision}
use Rattle.pack_shown.specs.Shown.{switch_after, switches_word, first_mode, mode_order, flow_mode, decision_after}
use Rattle.bus_table.specs.Table.{row_of_command}
use Rattle.bus_words.specs.Words.{status_word, sent_word, said_of, word_after}
use Rattle.bus_words.proofs.Demands.{word-is}
use Rattle.bus.specs.Replied as reply
use Rattle.bus.specs.Replies.{reply_refusals, answer_to, answer_after, buffer_of, buffer_after}
use Rattle.bus.specs.Demands as bus
use Rattle.log_entries.specs.Entry as entry
use Rattle.log_entries.specs.Entry.{read_entry}
use Rattle.log_lines.specs.Lines.{lines_of}
use Rattle.log_answers.specs.Told as told
use Rattle.log_answers.specs.Says.{says}
use Rattle.log_answers.proofs.Says.{line-told}
use Rattle.log_answers.specs.Tell.{tell}
use Rattle.log_answers.specs.Seventeen.{is_seventeen, is_malformed}
use Rattle.log_answers.proofs.Seventeen.{seventeen-exactly}
use Rattle.log_texts.specs.Texts.{header_text}
use Rattle.pack_log.specs.Replay.{replayed}
use Rattle.demands.specs.Answers as answers
use Rattle.demands.specs.Answers.{IsAnswered, IsReplied, is-answered, is-replied}
use Rattle.demands.specs.ByWords as words
use Rattle.demands.specs.Levels as levels
use Rattle.demands.specs.Levels.{tenths_of}
use Rattle.demands.specs.Said as said
use Rattle.demands.specs.Said.{Words, placed}
use Rattle.demands.specs.BledWords.{bled_words_after, words-fair, words-run, words-apart, words-few}
use Rattle.demands.specs.History.{story, replay-says}
use Rattle.demands.specs.Shown.{shown, shown_words, samples, wanted, nobody, MayBeOn, word-1, word-2, word-3}
use Rattle.demands.specs.Shown.{shown-is, shown-balance, shown-words, shown-each, raise-when, release-when, on-exactly, raised-stops}
use Rattle.demands.specs.Shown.{never-shown, raised-own, clear-at-load, command-raises-none}
use Rattle.demands.specs.TooFew.{waiting, too-few}
use Rattle.demands.specs.TwoCells.{two-suffice}
use Rattle.demands.specs.Written.{page_for}
use Rattle.demands.specs.Suffice.{Suffice}

-- ==== DEMAND 1

-- ---- "Any page, sample, command or log line gets an answer."

-- A page: accepted, or refused by rows 1 to 8.
pub demand-1-page : (bytes : List ℕ) → IsAnswered (judged bytes) (refusals bytes)
demand-1-page b = is-answered (judged b) (refusals b) (page.accepted-exactly b) (page.refused-exactly b)

-- A sample that is offered to a pack: accepted, or refused by rows 9 to 11.
pub demand-1-sample : (p : Pack) (s : Sample) → IsAnswered (offered p s).verdict (sample_refusals p.rules.n s)
demand-1-sample p s = is-answered _ _ (answers.sample-accepted-exactly p s) (answers.sample-refused-exactly p s)

-- A switch command: accepted, or refused by row 16.
pub demand-1-command : (p : Pack) (c : ℕ) → IsAnswered (commanded p c).verdict (command_refusals c)
demand-1-command p c = is-answered _ _ (answers.command-accepted-exactly p c) (answers.command-refused-exactly p c)

-- A command on the bus, with a buffer of any length: sent, or refused by rows 12 to 15.
pub demand-1-reply : (p : Pack) (c room : ℕ) → IsReplied (answer_to p c room) (reply_refusals p.rules.n p.sampled c room)
unfolding answer_to
demand-1-reply p c room =
    is-replied _ _ (bus.sent-exactly p.rules.n p.sampled c room) (bus.refused-exactly p.rules.n p.sampled c room)

-- A line of the log behind any events: 17, or what document 01 says of its sample or its command (`says`).
pub demand-1-line : (bytes : List ℕ) (es : List Event) (line : List ℕ) → (tell (after bytes es) line).told ≡ says bytes es line
demand-1-line = line-told

-- ---- "Each refusal in document 01 is given exactly when its row says and no lower number applies."

-- A page, with the lowest word at fault.
pub demand-1-page-accepted : (bytes : List ℕ) → (judged bytes ≡ Accepted) ↔ NoFault (refusals bytes)
demand-1-page-accepted = page.accepted-exactly

pub demand-1-page-refused : (bytes : List ℕ) (k w : ℕ) → (judged bytes ≡ Refused k w) ↔ Lowest (refusals bytes) k w
demand-1-page-refused = page.refused-exactly

-- "What no row fits is accepted or answered: there is no other reason to refuse." A page of its length, with its mark and its check byte, each
-- word of which is right by what it is (a trip word with the release word behind it), is accepted: no word is held against any other.
pub demand-1-page-right : (bytes : List ℕ) → length bytes ≡ bytes_of (layout_of (length bytes)) → word_at bytes 0 ≡ (layout_of (length bytes)).mark
    → get_or bytes (check_at (layout_of (length bytes))) 0 ≡ check_byte (take (check_at (layout_of (length bytes))) bytes)
    → ((i : ℕ) → i ≤ (layout_of (length bytes)).last → Right bytes (kind_of (layout_of (length bytes)) i) i) → judged bytes ≡ Accepted
demand-1-page-right = right-accepted

-- A sample.
pub demand-1-sample-accepted : (p : Pack) (s : Sample) → ((offered p s).verdict ≡ Accepted) ↔ NoFault (sample_refusals p.rules.n s)
demand-1-sample-accepted = answers.sample-accepted-exactly

pub demand-1-sample-refused : (p : Pack) (s : Sample) (k w : ℕ)
    → ((offered p s).verdict ≡ Refused k w) ↔ Lowest (sample_refusals p.rules.n s) k w
demand-1-sample-refused = answers.sample-refused-exactly

-- A switch command.
pub demand-1-command-accepted : (p : Pack) (c : ℕ) → ((commanded p c).verdict ≡ Accepted) ↔ NoFault (command_refusals c)
demand-1-command-accepted = answers.command-accepted-exactly

pub demand-1-command-refused : (p : Pack) (c k w : ℕ)
    → ((commanded p c).verdict ≡ Refused k w) ↔ Lowest (command_refusals c) k w
demand-1-command-refused = answers.command-refused-exactly

-- A command on the bus.
pub demand-1-reply-sent : (p : Pack) (c room : ℕ)
    → (answer_to p c room ≡ reply.Sent) ↔ NoFault (reply_refusals p.rules.n p.sampled c room)
unfolding answer_to
demand-1-reply-sent p = bus.sent-exactly p.rules.n p.sampled

pub demand-1-reply-refused : (p : Pack) (c room k : ℕ)
    → (answer_to p c room ≡ reply.Refused k) ↔ Lowest (reply_refusals p.rules.n p.sampled c room) k 0
unfolding answer_to
demand-1-reply-refused p = bus.refused-exactly p.rules.n p.sampled

-- A line of the log: 17 exactly if it is malformed, in any pack.
pub demand-1-line-malformed : (p : Pack) (line : List ℕ) → is_seventeen (tell p line).told ≡ is_malformed (entry.kind_of (read_entry line))
demand-1-line-malformed = seventeen-exactly

-- "`F` has the command; `S` has current, temperature 1, temperature 2 and the cells": fields that are the texts of numbers in range say these numbers,
-- whichever they are, and there is no other reason to call them malformed. Ten cells at most, in the places from the first on.
pub demand-1-line-sample : (current : ℤ) (t1 t2 : ℕ) (cells : List ℕ) → InRange current → t1 ≤ 65535 → t2 ≤ 65535 → Words cells → length cells ≤ 10
    → entry.fields_say ((83 ∷ []) ∷ signed_text current ∷ decimal t1 ∷ decimal t2 ∷ map decimal cells)
    ≡ entry.offer current t1 t2 (length cells) (placed (replicate 10 no_volts) 0 cells)
demand-1-line-sample = said.sample-said

pub demand-1-line-command : (c : ℕ) → c ≤ 65535 → entry.fields_say ((70 ∷ []) ∷ decimal c ∷ []) ≡ entry.command c
demand-1-line-command = said.command-said

-- ---- "It leaves the pack state and every lent buffer untouched."

pub demand-1-sample-untouched : (p : Pack) (s : Sample) (k w : ℕ) → (offered p s).verdict ≡ Refused k w → (offered p s).pack ≡ p
demand-1-sample-untouched = answers.refused-sample-untouched

pub demand-1-command-untouched : (p : Pack) (c k w : ℕ) → (commanded p c).verdict ≡ Refused k w → (commanded p c).pack ≡ p
demand-1-command-untouched = answers.refused-command-untouched

pub demand-1-line-untouched : (p : Pack) (line : List ℕ) (k : ℕ) → (tell p line).told ≡ told.Refused k → (tell p line).pack ≡ p
demand-1-line-untouched = answers.refused-line-untouched

-- The reply buffer, of any length. Pages, lines and the pack of a reply are lent to be read only.
pub demand-1-buffer-untouched : (p : Pack) (c k : ℕ) (buffer : List ℕ)
    → answer_to p c (length buffer) ≡ reply.Refused k → buffer_of p c buffer ≡ buffer
demand-1-buffer-untouched = bus.refused-untouched

-- ---- "If a page is taken, the same page with all its byte pairs swapped is refused."

-- Of bytes, each below 256; with number 2.
pub demand-1-swapped : (bytes : List ℕ) → ((i : ℕ) → get_or bytes i 0 < 256)
    → judged bytes ≡ Accepted → judged (swapped bytes) ≡ Refused 2 0
demand-1-swapped = swapped-refused

-- ==== DEMAND 2

module _ (bytes : List ℕ) (es : List Event) where
  -- ---- "Protections, switches, balance choices, status words and bus replies are what document 01 says of the page and the history,
  -- since its load, of accepted samples and switch commands."

  -- The state, every field of it.
  pub demand-2-state : after bytes es ≡ pack_after bytes es
  demand-2-state = after-is bytes es

  -- The five fields of a decision: tick, raised, fets, balance and mode.
  pub demand-2-decision : shown bytes es ≡ decision_after (page_of bytes) (past_after bytes es)
  demand-2-decision = shown-is bytes es

  -- Protections,
  pub demand-2-protections : (shown bytes es).raised ≡ raised_word_after (page_of bytes).limits (samples bytes es)
  unfolding decision_after
  demand-2-protections = ap (λ (d : Decision). d.raised) (shown-is bytes es)

  -- switches,
  pub demand-2-switches : (shown bytes es).fets ≡ switches_word (switch_after (page_of bytes) (past_after bytes es))
  unfolding decision_after
  demand-2-switches = ap (λ (d : Decision). d.fets) (shown-is bytes es)

  -- balance choices;
  pub demand-2-balance : (shown bytes es).balance ≡ bled_after (page_of bytes) (samples bytes es)
  demand-2-balance = shown-balance bytes es

  -- while any protection is raised, whatever its mask, nothing is bled.
  pub demand-2-raised-stops : ((shown bytes es).raised ≡ 0 → ⊥) → (shown bytes es).balance ≡ 0
  demand-2-raised-stops = raised-stops bytes es

  -- Status words: the word of every command on the bus, battery status (0x16), mode (0x41) and 0x45 among them.
  pub demand-2-word : (c : ℕ) → sent_word (said_of (after bytes es)) (row_of_command c) ≡ word_after (page_of bytes) (past_after bytes es) c
  demand-2-word = word-is bytes es

  -- "`balance` is as 0x46", and the mode is that of 0x41.
  pub demand-2-balance-46 : word_after (page_of bytes) (past_after bytes es) 0x46 ≡ (shown bytes es).balance
  demand-2-balance-46 = words.balance-as-46 bytes es

  pub demand-2-mode-41 : word_after (page_of bytes) (past_after bytes es) 0x41 ≡ (shown bytes es).mode
  demand-2-mode-41 = words.mode-as-41 bytes es

  -- By the page's own words, at the latest accepted sample s.
  module _ (taken : judged bytes ≡ Accepted) (s : Sample) (h : List Sample) (latest : samples bytes es ≡ s ∷ h) where
    -- "A cell wants bleeding if the current is at least the charge detection current, no protection is raised, the cell is at or above the floor,
    -- and it exceeds the lowest cell by more than the difference." Detection is word 6, the floor word 4, the difference word 5.
    pub demand-2-wants : (k : ℕ) → get_or (wanted bytes es) 0 nobody k
        ≡ wants (is_charging (signed_of (word_at bytes 6)) s.current) (not (eqb (shown bytes es).raised 0)) (word_at bytes 4) (word_at bytes 5)
        (extremes_of s.cells s.count).lowest.volts.0 (volts_of s.cells k)
    demand-2-wants = words.wants-by-words bytes taken es s h latest

    -- So with a current below word 6 nothing is bled.
    pub demand-2-no-charge-stops : is_charging (signed_of (word_at bytes 6)) s.current ≡ false → (shown bytes es).balance ≡ 0
    demand-2-no-charge-stops = words.none-below-detection bytes taken es s h latest

    -- "Mode: .. the number of the first raised one in the order 4, 3, 2, 0, 7, 6, 5; else 0x03 if current is at least charge detection; else 0x02."
    pub demand-2-mode : (shown bytes es).mode
        ≡ first_mode (raised_after (page_of bytes).limits (samples bytes es)) mode_order (flow_mode (is_charging (signed_of (word_at bytes 6)) s.current))
    demand-2-mode = words.mode-by-words bytes taken es s h latest

    -- "Battery status: 0x8000 if 0 is raised, 0x4000 if a raised one blocks charge, 0x1000 if 5, 6 or 7 is raised, 0x0800 if a raised one blocks
    -- discharge, 0x0080 always, 0x0040 if the current is below charge detection; other bits 0."
    pub demand-2-status : word_after (page_of bytes) (past_after bytes es) 0x16
        ≡ status_word (raised_after (page_of bytes).limits (samples bytes es)) (blocks_after (page_of bytes).limits (samples bytes es))
        (is_charging (signed_of (word_at bytes 6)) s.current)
    demand-2-status = words.status-by-words bytes taken es s h latest

    -- "0x14, 0x15: word 8; n × word 7. Both 0 if a raised protection blocks charge."
    pub demand-2-charging-current : word_after (page_of bytes) (past_after bytes es) 0x14
        ≡ cond (blocks_after (page_of bytes).limits (samples bytes es) 0) 0 (word_at bytes 8)
    demand-2-charging-current = words.current-by-words bytes taken es s h latest

    pub demand-2-charging-voltage : word_after (page_of bytes) (past_after bytes es) 0x15
        ≡ cond (blocks_after (page_of bytes).limits (samples bytes es) 0) 0 (word_at bytes 1 * word_at bytes 7)
    demand-2-charging-voltage = words.voltage-by-words bytes taken es s h latest

  -- Bus replies: the answer to every command, with a buffer of any length,
  pub demand-2-reply : (c room : ℕ) → answer_to (after bytes es) c room ≡ answer_after (page_of bytes) (past_after bytes es) c room
  demand-2-reply = bus.answer-is bytes es

  -- and what then stands in the buffer.
  pub demand-2-buffer : (c : ℕ) (buffer : List ℕ)
      → buffer_of (after bytes es) c buffer ≡ buffer_after (page_of bytes) (past_after bytes es) c buffer
  demand-2-buffer = bus.buffer-is bytes es

  -- For each protection that the page has: of a page of any length once, over its own number of protections.
  module _ (s : Sample) (taken : (offered (after bytes es) s).verdict ≡ Accepted) (p : ℕ) (inside : p < page_protections bytes) where
    -- ---- "A clear protection is raised exactly when its last N samples all trip,"

    -- At one more accepted sample, the latest of the last N. N is word 18 + 5p of the page.
    pub demand-2-raised : has_bit (shown bytes es).raised p ≡ false
        → has_bit (shown bytes (offer s ∷ es)).raised p
        ≡ last_all (word_at bytes (18 + 5 * p)) (trips (row_at p) (limits_from bytes p)) (samples bytes (offer s ∷ es))
    demand-2-raised = raise-when bytes es s taken p inside

    -- ---- "a raised one released exactly when its last M all qualify."

    -- M is word 19 + 5p of the page.
    pub demand-2-released : has_bit (shown bytes es).raised p ≡ true
        → has_bit (shown bytes (offer s ∷ es)).raised p
        ≡ not (last_all (word_at bytes (19 + 5 * p)) (qualifies (row_at p) (limits_from bytes p)) (samples bytes (offer s ∷ es)))
    demand-2-released = release-when bytes es s taken p inside

  -- What trips and what qualifies, by the page's own words 16 + 5p and 17 + 5p, for a sample of any reading.
  module _ (s : Sample) (p : ℕ) where
    -- "Cells in mV, current in mA (a signed 16-bit number ..)": cells and currents are held against the words as they stand.
    module _ (plain : in_degrees (row_at p).quantity ≡ false) where
      pub demand-2-trips : trips (row_at p) (limits_from bytes p) s
          ≡ reaches (row_at p).direction (level_of (row_at p).quantity (word_at bytes (16 + 5 * p))) (measure (row_at p).quantity s)
      demand-2-trips = levels.trips-plain bytes p plain s

      pub demand-2-qualifies : qualifies (row_at p) (limits_from bytes p) s
          ≡ reaches (back_of (row_at p).direction) (level_of (row_at p).quantity (word_at bytes (17 + 5 * p))) (measure (row_at p).quantity s)
      demand-2-qualifies = levels.qualifies-plain bytes p plain s

    -- Document 02: "C degrees now stand for exactly 10 × C + 2731.5 tenths. So an upper trip at C needs a sample of 10 × C + 2732 or more, and its
    -- release one of 10 × C + 2731 or less; a lower limit is the mirror." Both sides are taken twice, so that they are whole.
    module _ (taken : judged bytes ≡ Accepted) (inside : p < page_protections bytes) (heat : in_degrees (row_at p).quantity ≡ true) where
      pub demand-2-trips-degrees : trips (row_at p) (limits_from bytes p) s
          ≡ reaches (row_at p).direction (twice_tenths (signed_of (word_at bytes (16 + 5 * p)))) (pos (2 * tenths_of (row_at p).quantity s))
      demand-2-trips-degrees = levels.trips-degrees bytes taken p inside heat s

      pub demand-2-qualifies-degrees : qualifies (row_at p) (limits_from bytes p) s
          ≡ reaches (back_of (row_at p).direction) (twice_tenths (signed_of (word_at bytes (17 + 5 * p)))) (pos (2 * tenths_of (row_at p).quantity s))
      demand-2-qualifies-degrees = levels.qualifies-degrees bytes taken p inside heat s

  -- Document 02: "On a 128-byte page 8 and 9 never rise." No protection that the page does not have is ever shown as raised,
  pub demand-2-never-rises : (p : ℕ) → page_protections bytes ≤ p → has_bit (shown bytes es).raised p ≡ false
  demand-2-never-rises = never-shown bytes es

  -- 8 and 9 of a page of 128 bytes among them;
  pub demand-2-short-page : length bytes ≡ 128 → (has_bit (shown bytes es).raised 8 ≡ false) × (has_bit (shown bytes es).raised 9 ≡ false)
  demand-2-short-page short =
      let own = short-protections bytes short in
      (never-shown bytes es 8 (omega arith), never-shown bytes es 9 (omega arith))

  -- the raised field is the word over the page's own.
  pub demand-2-own-number : (shown bytes es).raised ≡ bits_of (raised_after (page_of bytes).limits (samples bytes es)) (page_protections bytes)
  demand-2-own-number = raised-own bytes es

  -- At the load all are clear, and neither a refused sample (`demand-1-sample-untouched`) nor a command raises or releases one.
  pub demand-2-clear-at-load : (shown bytes []).raised ≡ 0
  demand-2-clear-at-load = clear-at-load bytes

  pub demand-2-command-raises-none : (c : ℕ) → (shown bytes (command c ∷ es)).raised ≡ (shown bytes es).raised
  demand-2-command-raises-none = command-raises-none bytes es

  -- ---- "A commanded switch is on exactly when a sample has been accepted and no raised protection blocks it."

  -- Switch 0, charge, is bit 0 of the fets field, and switch 1, discharge, bit 1.
  pub demand-2-switch : (switch : ℕ) → switch < 2 → (has_bit (shown bytes es).fets switch ≡ true) ↔ MayBeOn bytes es switch
  demand-2-switch = on-exactly bytes es

-- The lines of the replay under an accepted page: the header, and of each line what document 01 says of it behind the lines before it.
pub demand-2-replay : (bytes log : List ℕ) → (after_load bytes).verdict ≡ Accepted
    → replayed bytes log ≡ header_text ++ story bytes [] (lines_of log)
demand-2-replay = replay-says

-- ==== DEMAND 3

-- ---- "From a fresh load, over any history, a cell that wants bleeding at n + 1 consecutive accepted samples, n being the number of
-- cells, is bled in at least one of them, whatever the other cells do."

-- One balance is shown for each accepted sample, and the wishes are one for each sample.
pub demand-3-each : (bytes : List ℕ) (es : List Event)
    → (length (shown_words bytes es) ≡ length (samples bytes es)) × (length (wanted bytes es) ≡ length (samples bytes es))
demand-3-each bytes es = (shown-each bytes es, wishes-length (page_of bytes) (samples bytes es))

pub page-good : (bytes : List ℕ) → judged bytes ≡ Accepted → Good (page_of bytes)
page-good bytes taken = rw (page-accepted bytes taken) (accepted-good bytes taken)

-- Any more than n samples suffice.
more-than-n : (n m : ℕ) → n < m → Suffice n m
more-than-n n m more bytes taken cells es k first last j wanting =
    let same : (page_of bytes).rules.n ≡ n = word-1 bytes taken ∙ cells in
    let few : suc (page_of bytes).rules.n ≤ m = omega arith in
    let those = last_all-le (suc (page_of bytes).rules.n) m (wants_cell k) (drop j (wanted bytes es)) few wanting in
    let some = words-fair (page_of bytes) (page-good bytes taken) k first (omega arith) j (samples bytes es) those in
    let words = drop j (bled_words_after (page_of bytes) (samples bytes es)) in
    rw (shown-words bytes es) (lt_of_lt_of_le some (among-le (suc (page_of bytes).rules.n) m (λ w. holds_cell w k) words few))

pub demand-3-wait : (n : ℕ) → Suffice n (n + 1)
demand-3-wait n = more-than-n n (n + 1) (omega arith)

-- ---- "No cell is bled at more than R accepted samples in a row, R being the page's run limit."

-- No R + 1 balances shown one after the other have its bit. R is word 3 of the page.
pub demand-3-run : (bytes : List ℕ) → judged bytes ≡ Accepted → (es : List Event) (k : ℕ) → 1 ≤ k → (j : ℕ)
    → last_all (suc (word_at bytes 3)) (λ w. holds_cell w k) (drop j (shown_words bytes es)) ≡ false
demand-3-run bytes taken es k first j =
    rw (shown-words bytes es, ← word-3 bytes taken) (words-run (page_of bytes) (page-good bytes taken) k first j (samples bytes es))

-- ---- "Never are two neighbours bled at once,"

-- Cells i + 1 and i + 2 have bits i and i + 1.
pub demand-3-neighbours : (bytes : List ℕ) → judged bytes ≡ Accepted → (es : List Event) (i j : ℕ)
    → has_bit (get_or (shown_words bytes es) j 0) i ≡ true → has_bit (get_or (shown_words bytes es) j 0) (suc i) ≡ true → ⊥
demand-3-neighbours bytes taken es i j =
    rw (shown-words bytes es) (words-apart (page_of bytes) (page-good bytes taken) i j (samples bytes es))

-- ---- "nor more than K cells."

-- No balance shown has more than K bits set. K is word 2 of the page.
pub demand-3-most : (bytes : List ℕ) → judged bytes ≡ Accepted → (es : List Event) (j : ℕ)
    → ones (get_or (shown_words bytes es) j 0) ≤ word_at bytes 2
demand-3-most bytes taken es j = rw (shown-words bytes es, ← word-2 bytes taken) (words-few (page_of bytes) j (samples bytes es))

-- ---- "Students always say n would do. It won't, and 01 shows why."

-- Were it so, there would be no such wait as TooFew shows.
pub demand-3-n-wont-do : (n : ℕ) → 3 ≤ n → n ≤ 10 → Suffice n n → ⊥
demand-3-n-wont-do n least most enough =
    let t = too-few n least most in
    let some : 0 < among n (λ w. holds_cell w 1) (shown_words (page_for n) (waiting n)) =
    enough (page_for n) t.page t.cells (waiting n) 1 (omega arith) (omega arith) 0 t.wanting in
    let none = t.bled in
    omega arith

-- With two cells it does: only one of two can exceed the lowest.
pub demand-3-two-cells : Suffice 2 2
demand-3-two-cells bytes taken cells es k first last j wanting =
    rw (shown-words bytes es) (two-suffice bytes taken (word-1 bytes taken ∙ cells) es k first last j wanting)
