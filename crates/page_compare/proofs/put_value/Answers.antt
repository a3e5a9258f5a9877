-- `page_compare::put_value` meets its contract. Assumes nothing.
use Rattle.std.proofs.Common.{◌<◌, rules}
use Rattle.page_compare.specs.Report.{value-number, value-dash}
use Rattle.page_compare.proofs.put_value.Goals as goal

pub returns-in-Some : goal.returns-in-Some
returns-in-Some c = let small : c.in-Some.v < 65536 = search rules in
    let p = c.put_decimal.ensures.put in
    let both = value-number _ _ _ c.in-Some.ensures small (rw c.from.ensures at p.put) in
    record { put = record { same = p.same; put = both.0 }; i_len_bound = both.1 }

pub returns-in-None : goal.returns-in-None
returns-in-None c = let p = c.put_byte.ensures.put in
    let both = value-dash _ _ c.in-None.ensures p.put in
    record { put = record { same = p.same; put = both.0 }; i_len_bound = both.1 }
