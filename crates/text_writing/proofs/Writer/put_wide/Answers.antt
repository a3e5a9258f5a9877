-- `Writer::put_wide` meets its contract. Assumes nothing.
use Rattle.std.proofs.Common.{refl, sym, ◌∙◌, leb-true, leb-false}
use Rattle.text_writing.specs.Places.{wide-not, wide-put}
use Rattle.text_writing.proofs.Writer.put_wide.Goals as goal

pub returns-then-has_room : goal.returns-then-has_room
returns-then-has_room c = let k = c.places_wide-k.ensures in
    let both = wide-put _ _ _ _ (k.value, k.lower_bound) _ (leb-true _ _ (sym c.has_room.ensures ∙ c.if-has_room.true)) c.put_digits.ensures in
    record { put = record { same = refl; put = both.0 }; upper_bound = both.1 }

pub returns-else-has_room : goal.returns-else-has_room
returns-else-has_room c = let k = c.places_wide-k.ensures in
    let both = wide-not _ _ _ _ (k.value, k.lower_bound) (leb-false _ _ (sym c.has_room.ensures ∙ c.if-has_room.false)) in
    record { put = record { same = refl; put = both.0 }; upper_bound = both.1 }
