-- THE REPLAY: what it writes for a page and a log, bytes to bytes; and the same for a log that is cut anywhere.
-- Assumes nothing.
use Rattle.std.specs.Prelude.{ℕ, ◌+◌, ◌-◌, ◌≤◌, ◌≡◌, refl, Bool, true, List, [], ◌∷◌, ◌++◌, length, take, drop, Ok, Err}
use Rattle.std.proofs.Common.{sym, ap, ◌∙◌, arith, ne_eqb}
use Rattle.text_writing.specs.Placing.{Put}
use Rattle.log_lines.specs.Walking.{Ended}
use Rattle.log_lines.specs.Folded.{behind_log}
use Rattle.log_lines.specs.Output as any
use Rattle.log_lines.specs.Chunk as cut
use Rattle.log_lines.specs.Run as run
use Rattle.log_lines.specs.Run.{closing}
use Rattle.refusals.specs.Verdicts.{Verdict}
use Rattle.pack_state.specs.declared.Pack.{Pack}
use Rattle.pack.specs.declared.Answered.{Answered}
use Rattle.pack.specs.Kept.{after_load}
use Rattle.log_entries.specs.declared.Entry.{Entry}
use Rattle.log_entries.specs.Entry.{read_entry}
use Rattle.log_answers.specs.Tell.{answered_as, tell, tell-overlong, pack-read}
use Rattle.log_texts.specs.Texts.{told_text, opening_text}
use Rattle.log_texts.specs.Room.{room, roomed, roomed-is, nothing-put}
use Rattle.log_answers.specs.declared.Outcome.{Outcome}
use Rattle.pack_log.specs.declared.chunk.Fed.{Fed}
use Rattle.pack_log.specs.declared.pass.Gone.{Gone}
use Rattle.pack_log.specs.declared.pass.Rest.{Rest}

-- The pack behind a line, and the text that the line is answered with.
abbrev pub next_pack : Pack → List ℕ → Pack
next_pack p line = (tell p line).pack

abbrev pub line_text : Pack → List ℕ → List ℕ
line_text p line = told_text (tell p line).told

-- "One line per log line": what a log is answered with, from a pack on.
abbrev pub output : Pack → List ℕ → List ℕ
output = any.output next_pack line_text

-- The pack behind a log.
abbrev pub pack_behind : Pack → List ℕ → Pack
pack_behind = behind_log next_pack

-- A refused page: its log is not looked at.
abbrev pub lines_for : Verdict → Pack → List ℕ → List ℕ
lines_for (Ok tt) p log = output p log
lines_for (Err r) p log = []

-- What the replay writes: the line of a refused page, or else the header, "then one line per log line".
unfoldable pub replayed : List ℕ → List ℕ → List ℕ
replayed page log =
    opening_text (after_load page).verdict ++ lines_for (after_load page).verdict (after_load page).pack log

-- ---- a log that is cut anywhere (crate log_lines, Chunk and Run)

-- What the chunk function answers.
abbrev pub AnswerChunk : List ℕ → List ℕ → Pack → Bool → ℕ → ℕ → Pack → List ℕ → Type 0
AnswerChunk = cut.AnswerChunk next_pack line_text room

-- What the feeding function answers for a buffer buf that is then buf', and a buffer d for the answers that is then e.
abbrev pub Feed : List ℕ → List ℕ → Pack → Fed → List ℕ → List ℕ → Type 0
Feed buf d p r buf' e = run.Feed next_pack line_text room buf d p r.done r.used r.held r.written r.pack buf' e

-- A pass writes nothing: every line is answered with no text, into a buffer of no bytes, which is never full. So no newline is left behind it.
abbrev pub no_text : Pack → List ℕ → List ℕ
no_text p line = []

abbrev pub PassChunk : List ℕ → Pack → Gone → Type 0
PassChunk text p r = cut.AnswerChunk next_pack no_text 0 text [] p true r.used 0 r.pack []

abbrev pub Pass : List ℕ → Pack → Rest → List ℕ → Type 0
Pass buf p r buf' = run.Feed next_pack no_text 0 buf [] p true r.used r.held 0 r.pack buf' []

-- ---- what the code needs of them

-- All lines over 128 bytes are answered alike.
pub alike : any.Alike next_pack line_text
alike p l m h k =
    let e : tell p l ≡ tell p m = tell-overlong p l h ∙ sym (tell-overlong p m k) in
    (ap (λ (t : Outcome). t.pack) e, ap (λ (t : Outcome). told_text t.told) e)

-- The newline of the last line was put.
pub closing-none : (buf : List ℕ) (held : ℕ) → held ≡ 0 → Put buf held (closing held) 0 buf
unfolding closing
closing-none buf held e = rw e (nothing-put buf 0)

pub closing-put : (buf : List ℕ) (held r : ℕ) (e : List ℕ) → (held ≡ 0 → ⊥) → Put buf held (10 ∷ []) r e → Put buf held (closing held) r e
unfolding closing
closing-put buf held r e n p = rw (ne_eqb held 0 n) p

-- One answer more in a chunk.
module _ (text d : List ℕ) (s : Pack) (at w : ℕ) (k : Pack) (o : List ℕ) (g : cut.Going next_pack line_text room text d s at w k o) where
  pub chunk-on : (end on : ℕ) → Ended text at end on → w + room ≤ length o → (t : Outcome) → t ≡ tell k (take (end - at) (drop at text))
      → (r : ℕ) (e : List ℕ) → length (roomed (length o) w (told_text t.told)) ≤ room → Put o w (roomed (length o) w (told_text t.told)) r e
      → cut.Going next_pack line_text room text d s on r t.pack e
  chunk-on end on n h t et r e few p =
      let i = roomed-is (length o) w (told_text t.told) h in
      cut.going-on next_pack line_text room text d s at w k o g end on n h (told_text t.told) t.pack r e (rw i at few)
      (ap (λ (q : Outcome). told_text q.told) et) (ap (λ (q : Outcome). q.pack) et) (rw i at p)

-- One line more in a pass: the pack answered a to what the line says.
module _ (text : List ℕ) (s : Pack) (at : ℕ) (k : Pack) (g : cut.Going next_pack no_text 0 text [] s at 0 k []) where
  pub pass-on : (end on : ℕ) → Ended text at end on → (e : Entry) → e ≡ read_entry (take (end - at) (drop at text))
      → (a : Answered) → a ≡ answered_as k e → cut.Going next_pack no_text 0 text [] s on 0 a.pack []
  pass-on end on n e ee a ea =
      cut.going-on next_pack no_text 0 text [] s at 0 k [] g end on n (omega arith) [] a.pack 0 [] (omega arith) refl
      (pack-read k (take (end - at) (drop at text)) e a ee ea) (nothing-put [] 0)
