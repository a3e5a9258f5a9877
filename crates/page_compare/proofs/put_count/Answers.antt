-- `page_compare::put_count` meets its contract. Assumes nothing.
use Rattle.std.proofs.Common.{◌∙◌, arith}
use Rattle.page_compare.specs.Report.{Behind, behind-on, number-few, count-put}
use Rattle.page_compare.proofs.put_count.Goals as goal

pub returns : goal.returns
returns c = let h = c.requires in
    let p0 = c.put_bytes.ensures.put in
    let p1 = c.put_decimal.ensures.put in
    let p2 = c.put_byte.ensures.put in
    let f0 : Behind _ _ _ 6 _ _ = record { put = p0.put; few = omega arith } in
    let f1 = behind-on 5 f0 (omega (arith, h)) (rw c.from.ensures at p1.put) (number-few _ c.ranges.n.fits) in
    let f2 = behind-on 1 f1 (omega (arith, h)) p2.put (omega arith) in
    let both = count-put _ f2 in
    record { put = record { same = p2.same ∙ p1.same ∙ p0.same; put = both.0 }; n_len_bound = both.1 }
