-- What waits is few, since no line is left in it.
use Rattle.std.proofs.Common.{refl}
use Rattle.log_lines.specs.Carrying.{carried-little}
use Rattle.gauge.proofs.MeteringPassing.pass.Goals as goal

pub returns : goal.returns
returns c =
    let f = c.pass-r.ensures in
    (f.few, rw f.carries (carried-little _ _ refl))
