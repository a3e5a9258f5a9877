-- `Writer::put_row` meets its contract: it asks once for room for the longest row.
use Rattle.std.proofs.Common.{refl, sym, ◌∙◌, ◌+◌, length, arith, leb-true, leb-false}
use Rattle.text_writing.specs.Rows.{room, put-room, row-put, roomed-short, roomed-made}
use Rattle.text_writing.proofs.Writer.put_row.Goals as goal

pub put_back-requires : goal.put_back-requires
put_back-requires c = let s = c.args.self.now in
    let h = leb-true (s.at + room) (length s.out.now) (sym c.has_room.ensures ∙ c.if-has_room.true) in
    put-room 12 c.put_front.ensures.put.put (omega (arith, c.put_front.ensures.third_len_bound))

pub returns-then-has_room : goal.returns-then-has_room
returns-then-has_room c = let a = c.args in
    let h = leb-true _ _ (sym c.has_room.ensures ∙ c.if-has_room.true) in
    let both = roomed-made _ _ _ _ _ h (row-put a.first a.second a.third a.fourth a.fifth h (c.put_front.ensures.put.put, c.put_front.ensures.third_len_bound) (c.put_back.ensures.put.put, c.put_back.ensures.fifth_len_bound)) in
    record { put = record { same = c.put_back.ensures.put.same ∙ c.put_front.ensures.put.same; put = both.0 }; fifth_len_bound = both.1 }

pub returns-else-has_room : goal.returns-else-has_room
returns-else-has_room c =
    let both = roomed-short _ _ _ (leb-false _ _ (sym c.has_room.ensures ∙ c.if-has_room.false)) in
    record { put = record { same = refl; put = both.0 }; fifth_len_bound = both.1 }
