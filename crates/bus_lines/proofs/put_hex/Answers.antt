-- `bus_lines::put_hex` meets its contract. Assumes nothing.
use Rattle.std.proofs.Common.{◌∙◌}
use Rattle.bus_lines.specs.Lines.{hex-put}
use Rattle.bus_lines.proofs.put_hex.Goals as goal

pub returns : goal.returns
returns c = let p = c.put_byte.ensures.put in
    let q = c.put_byte-2.ensures.put in
    record { same = q.same ∙ p.same; put = hex-put c.args.b c.requires (rw c.digit-high.ensures at p.put) (rw c.digit-low.ensures at q.put) }
