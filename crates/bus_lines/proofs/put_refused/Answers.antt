-- `bus_lines::put_refused` meets its contract. Assumes nothing.
use Rattle.std.proofs.Common.{◌∙◌}
use Rattle.bus_lines.specs.Lines.{refused-length, refused-put}
use native.Mathlib.Omega.{arith}
use Rattle.bus_lines.proofs.put_refused.Goals as goal

pub returns : goal.returns
returns c = let a = c.args in
    let p = c.put_bytes.ensures.put in
    let q = c.put_decimal.ensures.put in
    record { put = record { same = q.same ∙ p.same; put = refused-put a.number (omega arith) c.requires p.put (rw c.from.ensures at q.put) }; number_len_bound = refused-length a.number (omega arith) }
