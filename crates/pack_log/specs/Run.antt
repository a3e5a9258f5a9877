-- HOWEVER THE LOG IS CUT into reads, and whatever the buffers hold: what is written is what the replay writes for the whole log, and the pack
-- behind it is the one that the page and the events of its lines say. The same for a pass that writes no text.
-- Assumes nothing.
use Rattle.std.specs.Prelude.{◌≤◌, ◌≡◌, true, ℕ, length, take}
use Rattle.std.proofs.Math.Path.{refl, ap}
use Rattle.std.proofs.Common.{sym, ◌∙◌, arith}
use mathlib.Core.List.{List, [], ◌∷◌, ◌++◌, append-nil}
use Rattle.log_lines.specs.Lines.{lines_of}
use Rattle.log_lines.specs.Folded.{behind_lines, behind_log}
use Rattle.log_lines.specs.Run.{closing, Round, read_in, written_in, state_behind, held_behind, done_behind, Ran, whole-log}
use Rattle.refusals.specs.Verdicts as verdict
use Rattle.pack_state.specs.declared.Pack.{Pack}
use Rattle.pack.specs.Events.{Event}
use Rattle.pack.specs.Kept.{after_load}
use Rattle.pack.specs.After.{after}
use Rattle.log_answers.specs.Says.{events_with, events_behind}
use Rattle.log_answers.proofs.Says.{line-pack}
use Rattle.log_texts.specs.Texts.{header_text, opening_text}
use Rattle.log_texts.specs.Room.{room}
use Rattle.pack_log.specs.Replay.{next_pack, line_text, no_text, pack_behind, replayed, alike}

-- ---- the pack behind a log

-- The events of a log, the latest first.
abbrev pub events_of : List ℕ → List Event
events_of log = events_behind [] (lines_of log)

module _ (page : List ℕ) where
  lines-pack : (es : List Event) (ls : List (List ℕ)) → behind_lines next_pack (after page es) ls ≡ after page (events_behind es ls)
  unfolding behind_lines events_behind
  lines-pack es [] = refl
  lines-pack es (l ∷ ls) = ap (λ (p : Pack). behind_lines next_pack p ls) (line-pack page es l) ∙ lines-pack (events_with es l) ls

  -- It is the pack of the page and of the log's events.
  pub log-pack : (log : List ℕ) → pack_behind (after_load page).pack log ≡ after page (events_of log)
  unfolding behind_log
  log-pack log = lines-pack [] (lines_of log)

-- ---- the whole run

-- Some rounds over an accepted page, of which the last left no line, and the round that ends the log: what waits, with the newline that the
-- last line may lack.
pub replay-run : (page : List ℕ) → (after_load page).verdict ≡ verdict.Accepted
    → (rs : List (Round Pack)) → Ran next_pack line_text room (after_load page).pack [] rs → done_behind true rs ≡ true
    → (r : Round Pack) → r.part ≡ closing (length (held_behind [] rs)) → room ≤ length r.out
    → Ran next_pack line_text room (state_behind (after_load page).pack rs) (held_behind [] rs) (r ∷ [])
    → (header_text ++ (written_in rs ++ take r.written r.text) ≡ replayed page (read_in rs)) × (r.state ≡ after page (events_of (read_in rs)))
unfolding replayed
replay-run page a rs u t r c h f =
    let w = whole-log next_pack line_text room alike (after_load page).pack rs u t r c h f in
    (rw a (ap (λ (z : List ℕ). header_text ++ z) (sym w.0)), sym w.1 ∙ log-pack page (read_in rs))

-- The same for passes.
pub pass-run : (page : List ℕ) (rs : List (Round Pack)) → Ran next_pack no_text 0 (after_load page).pack [] rs → done_behind true rs ≡ true
    → (r : Round Pack) → r.part ≡ closing (length (held_behind [] rs)) → Ran next_pack no_text 0 (state_behind (after_load page).pack rs) (held_behind [] rs) (r ∷ [])
    → r.state ≡ after page (events_of (read_in rs))
pass-run page rs u t r c f =
    sym (whole-log next_pack no_text 0 (λ p l m h k. ((alike p l m h k).0, refl)) (after_load page).pack rs u t r c (omega arith) f).1
    ∙ log-pack page (read_in rs)

-- A refused page gives its one line, whatever the log is.
pub replayed-refused : (page log : List ℕ) (number word : ℕ) → (after_load page).verdict ≡ verdict.Refused number word
    → replayed page log ≡ opening_text (verdict.Refused number word)
unfolding replayed
replayed-refused page log number word a = rw a (append-nil (opening_text (verdict.Refused number word)))
