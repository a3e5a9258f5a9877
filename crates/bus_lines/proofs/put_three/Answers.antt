-- `bus_lines::put_three` meets its contract. Assumes nothing.
use borrow.Kind.Array.{e_int, good_length}
use mir.Syntax.{w8}
use Rattle.std.proofs.Common.{◌∙◌}
use Rattle.bus_lines.specs.Lines.{hex-length, three-length, room-behind, three-put}
use native.Mathlib.Omega.{arith}
use Rattle.bus_lines.proofs.put_three.Goals as goal

pub put_hex-requires-2 : goal.put_hex-requires-2
put_hex-requires-2 c = room-behind 2 2 c.put_hex.ensures.put (hex-length _) (omega (arith, c.requires))

pub put_hex-requires-3 : goal.put_hex-requires-3
put_hex-requires-3 c = room-behind 2 2 c.put_hex-2.ensures.put (hex-length _)
    (omega (arith, room-behind 2 4 c.put_hex.ensures.put (hex-length _) (omega (arith, c.requires))))

pub returns : goal.returns
returns c = let a = c.args in
    let n = good_length (e_int w8) 3 a.three _ c.well_formed.1.0 in
    let p = c.put_hex.ensures in
    let q = c.put_hex-2.ensures in
    let r = c.put_hex-3.ensures in
    record { put = record { same = r.same ∙ q.same ∙ p.same; put = three-put a.three n c.requires p.put q.put r.put }; three_len_bound = omega (arith, three-length a.three n) }
