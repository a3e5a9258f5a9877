-- The lines that the replay writes: document 01, "The replay program". A text is a list of bytes.
-- Assumes nothing.
use Rattle.std.specs.Prelude.{ℕ, List, [], ◌∷◌, Ok, Err}
use Rattle.text_fields.specs.Quoted.{quoted}
use Rattle.text_fields.specs.Fields.{line_of}
use Rattle.text_fields.specs.Decimal.{decimal}
use Rattle.refusals.specs.Verdicts.{Verdict}
use Rattle.pack_shown.specs.declared.Decision.{Decision}
use Rattle.log_answers.specs.Told.{Told}

-- The header.
unfoldable pub header_text : List ℕ
header_text = line_of (quoted "tick" ∷ quoted "raised" ∷ quoted "fets" ∷ quoted "balance" ∷ quoted "mode" ∷ [])

-- "A refused page gives one line: `page`, number, word."
unfoldable pub page_text : ℕ → ℕ → List ℕ
page_text number word = line_of (quoted "page" ∷ decimal number ∷ decimal word ∷ [])

-- The five fields of a decision, "all decimal".
unfoldable pub decision_text : Decision → List ℕ
decision_text d =
    line_of (decimal d.tick ∷ decimal d.raised ∷ decimal d.fets ∷ decimal d.balance ∷ decimal d.mode ∷ [])

-- "A refused line gives `refused` and the number."
unfoldable pub refused_text : ℕ → List ℕ
refused_text number = line_of (quoted "refused" ∷ decimal number ∷ [])

-- What a line is answered with.
abbrev pub told_text : Told → List ℕ
told_text (Ok d) = decision_text d
told_text (Err number) = refused_text number

-- What is written before the lines: "Otherwise a header".
abbrev pub opening_text : Verdict → List ℕ
opening_text (Ok tt) = header_text
opening_text (Err r) = page_text r.number r.word
