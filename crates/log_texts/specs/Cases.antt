-- Worked texts, computed: what a reader can check by eye.
-- Assumes nothing.
use Rattle.std.specs.Prelude.{◌≡◌, refl, length}
use Rattle.text_fields.specs.Quoted.{quoted}
use Rattle.text_fields.specs.Fields.{line_of}
use Rattle.text_fields.specs.Decimal.{decimal}
use Rattle.refusals.specs.Verdicts as verdict
use Rattle.pack_shown.specs.Shown.{decision}
use Rattle.log_answers.specs.Told.{Decided, Refused}
use Rattle.log_texts.specs.Texts.{header_text, page_text, decision_text, refused_text, told_text, opening_text}
use Rattle.log_texts.specs.Room.{room}

-- five unlike fields, a refused line, a refused page and the header
pub texts : (told_text (Decided (decision 1 20 3 512 21)) ≡ quoted "1\t20\t3\t512\t21\n") × (told_text (Refused 17) ≡ quoted "refused\t17\n")
    × (opening_text (verdict.Refused 8 26) ≡ quoted "page\t8\t26\n") × (opening_text verdict.Accepted ≡ quoted "tick\traised\tfets\tbalance\tmode\n")
unfolding decision_text refused_text page_text header_text line_of decimal
texts = (refl, refl, refl, refl)

-- the longest answer, a number of 32 bits and four of 16, has just room
pub longest : length (decision_text (decision 4294967295 65535 65535 65535 65535)) ≡ room
unfolding decision_text line_of decimal
longest = refl
