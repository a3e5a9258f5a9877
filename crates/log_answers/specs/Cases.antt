-- Worked lines, computed: the events of some lines, and which answers and kinds are those of a malformed line.
-- Assumes nothing.
use Rattle.std.specs.Prelude.{◌≡◌, refl, true, false, [], ◌∷◌, map, negsuc}
use Rattle.text_fields.specs.Quoted.{quoted}
use Rattle.text_fields.specs.Finding.{lacks}
use Rattle.text_fields.specs.Fields.{fields_of}
use Rattle.text_numbers.specs.Numbers.{number_to, digits_to, read_signed}
use Rattle.refusals.specs.Answers.{answer_of}
use Rattle.refusals.specs.Refusals.{answer}
use Rattle.sample.specs.Cases.{sampled}
use Rattle.page_settings.specs.Cases.{worked}
use Rattle.pack_state.specs.State.{fresh_pack}
use Rattle.pack.specs.Events.{offer, command}
use Rattle.pack_shown.specs.Shown.{decision}
use Rattle.log_entries.specs.declared.Kind.TheVariants.{Offer, Command, Malformed}
use Rattle.log_entries.specs.Entry.{read_command, cells_from, second_from, first_from, read_sample, fields_say, read_entry}
use Rattle.log_answers.specs.Told.{Decided, Refused}
use Rattle.log_answers.specs.Says.{events_behind}
use Rattle.log_answers.specs.Seventeen.{is_seventeen, is_malformed}
use Rattle.log_answers.specs.Tell.{answered_as, outcome_of, tell}

-- 17 alone, and a decision is no refusal, whatever it shows
pub seventeens : map is_seventeen (Refused 17 ∷ Refused 16 ∷ Refused 18 ∷ Decided (decision 17 17 17 17 17) ∷ []) ≡ true ∷ false ∷ false ∷ false ∷ []
seventeens = refl

pub kinds : map is_malformed (Offer ∷ Command ∷ Malformed ∷ []) ≡ false ∷ false ∷ true ∷ []
kinds = refl

-- the events of four lines behind those of the lines before them, the latest first; a malformed line is none, and a command above 3 is one
pub events
    : events_behind (command 1 ∷ []) (quoted "F\t3" ∷ quoted "F\t03" ∷ quoted "S\t-7\t2981\t2992\t3001\t3002" ∷ quoted "F\t4" ∷ [])
    ≡ command 4 ∷ offer (sampled 2 (3001 ∷ 3002 ∷ 0 ∷ 0 ∷ 0 ∷ 0 ∷ 0 ∷ 0 ∷ 0 ∷ 0 ∷ []) (negsuc 6) 2981 2992) ∷ command 3 ∷ command 1 ∷ []
unfolding events_behind read_entry fields_say read_sample first_from second_from cells_from read_command lacks fields_of number_to digits_to read_signed
events = refl

-- "The others name word 0": 17 too.
pub seventeen-names-none : answer_of (answered_as (fresh_pack worked) (read_entry (quoted "F\t03"))).verdict ≡ answer 17 0
unfolding read_entry fields_say read_sample first_from second_from cells_from read_command lacks fields_of number_to digits_to read_signed
seventeen-names-none = refl

-- "It gives 17": a malformed line, and the pack behind it as it was
pub malformed-told : tell (fresh_pack worked) (quoted "F\t03") ≡ record { kind = Malformed; told = Refused 17; pack = fresh_pack worked }
unfolding tell outcome_of read_entry fields_say read_sample first_from second_from cells_from read_command lacks fields_of number_to digits_to read_signed
malformed-told = refl
