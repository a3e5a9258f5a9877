-- Worked cases, computed: what a reader can check by eye.
use Rattle.std.specs.Prelude.{None, ℕ, suc, ◌≡◌, refl, Bool, true, false, List, [], ◌∷◌, ◌++◌, length, replicate}
use Rattle.text_fields.specs.Finding.{before, lacks}
use Rattle.log_lines.specs.Lines.{Ends, lines_of, plain, next_line}
use Rattle.log_lines.specs.Carrying.{carried, move_down}
use Rattle.log_lines.specs.Walking.{whole}
use Rattle.log_lines.specs.Folded.{behind_lines, behind_log}
use Rattle.log_lines.specs.Run.{closing, Round, read_in, written_in, state_behind, held_behind, done_behind}
use Rattle.log_lines.specs.Output.{output, answers, written, with_answer}
use Rattle.log_lines.specs.Chunk.{answer_lines, reached}

-- an empty log has no line, one newline is one empty line
pub few : (lines_of [] ≡ []) × (lines_of (10 ∷ []) ≡ [] ∷ [])
unfolding lines_of
few = (refl, refl)

-- the last line need not end, and nothing after a final newline is a line; a carriage return is a byte like others
pub last : (lines_of (65 ∷ 10 ∷ 66 ∷ []) ≡ (65 ∷ []) ∷ (66 ∷ []) ∷ []) × (lines_of (65 ∷ 10 ∷ 66 ∷ 10 ∷ []) ≡ (65 ∷ []) ∷ (66 ∷ []) ∷ [])
    × (lines_of (65 ∷ 13 ∷ 10 ∷ 10 ∷ []) ≡ (65 ∷ 13 ∷ []) ∷ [] ∷ [])
unfolding lines_of
last = (refl, refl, refl)

-- of "A", newline, "B": the line from 0 on, the line from 2 on, and past the end
pub next : (next_line (65 ∷ 10 ∷ 66 ∷ []) 0 ≡ Ends 1 2) × (next_line (65 ∷ 10 ∷ 66 ∷ []) 2 ≡ None) × (next_line (65 ∷ 10 ∷ 66 ∷ []) 9 ≡ None)
unfolding next_line before
next = (refl, refl, refl)

-- however long it is, a line ends at its newline
pub long : (next_line (replicate 129 65) 0 ≡ None) × (next_line (replicate 129 65 ++ (10 ∷ [])) 0 ≡ Ends 129 130)
unfolding next_line before
long = (refl, refl)

-- 129 bytes are carried on of a line that did not end, and all where lines wait
pub carries : (carried true 128 ≡ 128) × (carried true 129 ≡ 129) × (carried true 500 ≡ 129) × (carried false 500 ≡ 500)
unfolding carried
carries = (refl, refl, refl, refl)

-- two bytes from place 1 on, and two from place 3 on, which there are not
pub moves : (move_down (1 ∷ 2 ∷ 3 ∷ 4 ∷ []) 1 2 ≡ 2 ∷ 3 ∷ 3 ∷ 4 ∷ []) × (move_down (1 ∷ 2 ∷ 3 ∷ 4 ∷ []) 3 2 ≡ 1 ∷ 2 ∷ 3 ∷ 4 ∷ [])
unfolding move_down
moves = (refl, refl)

-- the lines counted, each answered by its number and a newline
abbrev count : ℕ → List ℕ → ℕ
count n l = suc n

abbrev tell : ℕ → List ℕ → List ℕ
tell n l = n ∷ 10 ∷ []

pub told : output count tell 0 (65 ∷ 10 ∷ 10 ∷ 66 ∷ []) ≡ 0 ∷ 10 ∷ 1 ∷ 10 ∷ 2 ∷ 10 ∷ []
unfolding output answers lines_of
told = refl

-- the state behind a log, and behind some lines
pub counted : (behind_log count 0 (65 ∷ 10 ∷ 10 ∷ 66 ∷ []) ≡ 3) × (behind_log count 0 [] ≡ 0) × (behind_lines count 4 ((65 ∷ []) ∷ []) ≡ 5)
unfolding behind_log behind_lines lines_of
counted = (refl, refl, refl)

-- the newline of a last line, where there is one
pub closed : (closing 0 ≡ []) × (closing 1 ≡ 10 ∷ []) × (closing 129 ≡ 10 ∷ [])
unfolding closing
closed = (refl, refl, refl)

-- two rounds: what was read and written, and what is left behind them
abbrev round : List ℕ → Bool → List ℕ → Round ℕ
round part done text =
    record { part = part; out = []; done = done; used = 0; held = 1; written = 2; state = length part; rest = 66 ∷ 67 ∷ []; text = text }

pub rounds : (read_in (round (65 ∷ []) true (1 ∷ 2 ∷ 3 ∷ []) ∷ round (68 ∷ 69 ∷ []) false (4 ∷ 5 ∷ 6 ∷ []) ∷ []) ≡ 65 ∷ 68 ∷ 69 ∷ [])
    × (written_in (round (65 ∷ []) true (1 ∷ 2 ∷ 3 ∷ []) ∷ round (68 ∷ 69 ∷ []) false (4 ∷ 5 ∷ 6 ∷ []) ∷ []) ≡ 1 ∷ 2 ∷ 4 ∷ 5 ∷ [])
    × (state_behind 7 (round (65 ∷ []) true [] ∷ round (68 ∷ 69 ∷ []) false [] ∷ []) ≡ 2)
    × (held_behind (64 ∷ []) (round (65 ∷ []) true [] ∷ []) ≡ 66 ∷ [])
    × (done_behind true (round [] true [] ∷ round [] false [] ∷ []) ≡ false)
    × (state_behind {S = ℕ} 7 [] ≡ 7) × (held_behind {S = ℕ} (64 ∷ []) [] ≡ 64 ∷ []) × (done_behind {S = ℕ} true [] ≡ true)
rounds = (refl, refl, refl, refl, refl, refl, refl, refl)

-- with room for three bytes one of the two whole lines is answered
pub chunk : (answer_lines count tell 2 3 (reached 0 [] 0) (whole (65 ∷ 10 ∷ 10 ∷ 66 ∷ [])) ≡ reached 2 (0 ∷ 10 ∷ []) 1)
    × (answer_lines count tell 2 4 (reached 0 [] 0) (whole (65 ∷ 10 ∷ 10 ∷ 66 ∷ [])) ≡ reached 3 (0 ∷ 10 ∷ 1 ∷ 10 ∷ []) 2)
unfolding answer_lines whole
chunk = (refl, refl)

-- no newline in no bytes and in a carriage return; one behind a byte, and one before it
pub plains : (plain [] ≡ true) × (plain (65 ∷ 13 ∷ []) ≡ true) × (plain (65 ∷ 10 ∷ []) ≡ false) × (plain (10 ∷ 65 ∷ []) ≡ false)
unfolding lacks
plains = (refl, refl, refl, refl)

-- the lines that have their newline: not the last one without
pub wholes : (whole (65 ∷ 66 ∷ 10 ∷ 10 ∷ 67 ∷ []) ≡ (65 ∷ 66 ∷ []) ∷ [] ∷ []) × (whole (65 ∷ []) ≡ []) × (whole (65 ∷ 10 ∷ []) ≡ (65 ∷ []) ∷ [])
unfolding whole
wholes = (refl, refl, refl)

-- one line more: its answer behind the text, and the state behind it
pub one-more : with_answer count tell (written (9 ∷ []) 4) (65 ∷ []) ≡ record { text = 9 ∷ 4 ∷ 10 ∷ []; state = 5 }
one-more = refl

-- a tab is a byte of a line; 130 bytes are one more than enough; bytes moved up to the buffer's end; the parts of what is reached; a later round's end
pub more : (whole (9 ∷ 10 ∷ []) ≡ (9 ∷ []) ∷ []) × (carried true 130 ≡ 129) × (move_down (1 ∷ 2 ∷ 3 ∷ 4 ∷ []) 2 2 ≡ 3 ∷ 4 ∷ 3 ∷ 4 ∷ [])
    × (move_down (1 ∷ 2 ∷ 3 ∷ 4 ∷ []) 1 3 ≡ 2 ∷ 3 ∷ 4 ∷ 4 ∷ []) × (move_down (1 ∷ 2 ∷ 3 ∷ 4 ∷ []) 3 1 ≡ 4 ∷ 2 ∷ 3 ∷ 4 ∷ [])
    × (reached {S = ℕ} 2 (7 ∷ []) 5 ≡ record { used = 2; text = 7 ∷ []; state = 5 }) × (done_behind false (round [] true [] ∷ []) ≡ true)
unfolding whole carried move_down
more = (refl, refl, refl, refl, refl, refl, refl)
