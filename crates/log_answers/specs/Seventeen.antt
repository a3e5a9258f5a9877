-- "A malformed line is no sample and no command: it gives 17, whatever other row seems to fit." That a line is refused with 17 exactly if it
-- is malformed is shown in proofs/Seventeen.
-- Assumes nothing.
use Rattle.std.specs.Prelude.{Bool, true, false, eqb, Ok, Err}
use Rattle.log_entries.specs.declared.Kind.{Kind}
use Rattle.log_entries.specs.declared.Kind.TheVariants.{Offer, Command, Malformed}
use Rattle.log_answers.specs.Told.{Told}

-- Whether a line was refused with 17.
abbrev pub is_seventeen : Told → Bool
is_seventeen (Ok d) = false
is_seventeen (Err number) = eqb number 17

-- Whether a line is malformed.
abbrev pub is_malformed : Kind → Bool
is_malformed Offer = false
is_malformed Command = false
is_malformed Malformed = true
