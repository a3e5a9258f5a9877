-- `log_compare::report::put_first` meets its contract. Assumes nothing.
use Rattle.std.proofs.Common.{refl}
use Rattle.log_compare.specs.Report.{first-none, first-some}
use Rattle.log_compare.proofs.report.put_first.Goals as goal

pub returns-in-Some : goal.returns-in-Some
returns-in-Some c = let p = c.put_row.ensures in
    let both = first-some _ _ c.in-Some.is (rw c.requires.0 at p.put.put, p.v_in_bounds) in
    record { put = record { same = p.put.same; put = rw c.requires.0 both.0 }; line_len_bound = both.1 }

pub returns-in_default : goal.returns-in_default
returns-in_default c = let both = first-none _ _ c.in_default.is in
    record { put = record { same = refl; put = rw c.requires.0 both.0 }; line_len_bound = both.1 }
