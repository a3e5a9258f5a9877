-- A word that was read as a question; `Unknown` is no switch and no number.
-- Assumes nothing.
use Rattle.std.specs.Prelude.{Option, Some, None}
use Rattle.pack_why.specs.declared.asked.Asked.{Asked}

abbrev pub Question : Type 0
Question = Option Asked

abbrev pub Known : Asked → Question
Known asked = Some asked

abbrev pub Unknown : Question
Unknown = None
