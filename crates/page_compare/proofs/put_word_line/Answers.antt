-- `page_compare::put_word_line` meets its contract. Assumes nothing.
use Rattle.std.proofs.Common.{◌∙◌, arith}
use Rattle.page_compare.specs.Report.{Behind, behind-room, behind-on, two-few, line-put}
use Rattle.page_compare.proofs.put_word_line.Goals as goal

pub put_value-requires : goal.put_value-requires
put_value-requires c = let h = c.requires in
    let f0 : Behind _ _ _ 2 _ _ = record { put = rw c.from.ensures at c.put_decimal.ensures.put.put; few = two-few _ h.1 } in
    let f1 = behind-on 1 f0 (omega (arith, h.0)) c.put_byte.ensures.put.put (omega arith) in
    behind-room 5 f1 (omega (arith, h.0))

pub put_value-requires-2 : goal.put_value-requires-2
put_value-requires-2 c = let h = c.requires in
    let f0 : Behind _ _ _ 2 _ _ = record { put = rw c.from.ensures at c.put_decimal.ensures.put.put; few = two-few _ h.1 } in
    let f1 = behind-on 1 f0 (omega (arith, h.0)) c.put_byte.ensures.put.put (omega arith) in
    let f2 = behind-on 5 f1 (omega (arith, h.0)) c.put_value.ensures.put.put c.put_value.ensures.i_len_bound in
    let f3 = behind-on 1 f2 (omega (arith, h.0)) c.put_byte-2.ensures.put.put (omega arith) in
    behind-room 5 f3 (omega (arith, h.0))

pub returns : goal.returns
returns c = let h = c.requires in
    let p0 = c.put_decimal.ensures.put in
    let p1 = c.put_byte.ensures.put in
    let p2 = c.put_value.ensures.put in
    let p3 = c.put_byte-2.ensures.put in
    let p4 = c.put_value-2.ensures.put in
    let p5 = c.put_byte-3.ensures.put in
    let f0 : Behind _ _ _ 2 _ _ = record { put = rw c.from.ensures at p0.put; few = two-few _ h.1 } in
    let f1 = behind-on 1 f0 (omega (arith, h.0)) p1.put (omega arith) in
    let f2 = behind-on 5 f1 (omega (arith, h.0)) p2.put c.put_value.ensures.i_len_bound in
    let f3 = behind-on 1 f2 (omega (arith, h.0)) p3.put (omega arith) in
    let f4 = behind-on 5 f3 (omega (arith, h.0)) p4.put c.put_value-2.ensures.i_len_bound in
    let f5 = behind-on 1 f4 (omega (arith, h.0)) p5.put (omega arith) in
    let both = line-put _ _ _ (omega arith) f5 in
    record { put = record { same = p5.same ∙ p4.same ∙ p3.same ∙ p2.same ∙ p1.same ∙ p0.same; put = both.0 }; i_len_bound = both.1 }
