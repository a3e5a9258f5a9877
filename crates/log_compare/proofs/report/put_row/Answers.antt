-- `log_compare::report::put_row` meets its contract. Assumes nothing.
use Rattle.std.proofs.Common.{◌∙◌}
use Rattle.log_compare.specs.Report.{row-put}
use Rattle.log_compare.proofs.report.put_row.Goals as goal

pub returns : goal.returns
returns c =
    let p0 = c.put_bytes.ensures.put in
    let p1 = c.put_wide.ensures.put in
    let p2 = c.put_byte.ensures.put in
    let both = row-put _ _ c.requires c.put_wide.ensures.upper_bound.1 p0.put p1.put p2.put in
    record { put = record { same = p2.same ∙ p1.same ∙ p0.same; put = both.0 }; v_in_bounds = both.1 }
