-- Worked logs, computed: the lines of a log one behind the other, and its events.
-- Assumes nothing.
use Rattle.std.specs.Prelude.{◌≡◌, refl, [], ◌∷◌, map, negsuc, None}
use Rattle.text_fields.specs.Quoted.{quoted}
use Rattle.text_fields.specs.Finding.{before, lacks}
use Rattle.text_fields.specs.Fields.{fields_of}
use Rattle.text_numbers.specs.Numbers.{number_to, digits_to, read_signed}
use Rattle.sample.specs.Cases.{sampled}
use Rattle.pack.specs.Events.{offer, command}
use Rattle.log_lines.specs.Lines.{lines_of, next_line}
use Rattle.log_entries.specs.Entry.{malformed, command as said, read_command, cells_from, second_from, first_from, read_sample, fields_say, read_entry}
use Rattle.log_answers.specs.Says.{events_behind}
use Rattle.pack_log.specs.Next.{next_at, next_entry}
use Rattle.pack_log.specs.Run.{events_of}

-- a command, an empty line, and one that does not end: where the line behind it starts, and what it says
pub next-entries : map (next_entry (quoted "F\t3\n\nF\t2")) (0 ∷ 4 ∷ 5 ∷ []) ≡ next_at 4 (said 3) ∷ next_at 5 malformed ∷ None ∷ []
unfolding next_entry next_line before read_entry fields_say read_sample read_command lacks fields_of number_to digits_to read_signed
next-entries = refl

-- a command, a malformed line, an empty one, and a sample that need not end; the latest event first
pub events-of : events_of (quoted "F\t3\nF\t-1\n\nS\t-7\t2981\t2992\t3001\t3002")
    ≡ offer (sampled 2 (3001 ∷ 3002 ∷ 0 ∷ 0 ∷ 0 ∷ 0 ∷ 0 ∷ 0 ∷ 0 ∷ 0 ∷ []) (negsuc 6) 2981 2992) ∷ command 3 ∷ []
unfolding events_behind lines_of read_entry fields_say read_sample first_from second_from cells_from read_command lacks fields_of number_to digits_to read_signed
events-of = refl
