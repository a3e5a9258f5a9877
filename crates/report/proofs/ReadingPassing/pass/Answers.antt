-- What waits is few, since no line is left in it.
use Rattle.std.proofs.Common.{refl}
use Rattle.log_lines.specs.Carrying.{carried-little}
use Rattle.report.proofs.ReadingPassing.pass.Goals as goal

pub returns : goal.returns
returns c =
    let f = c.count-r.ensures in
    (f.few, rw f.carries (carried-little _ _ refl))
