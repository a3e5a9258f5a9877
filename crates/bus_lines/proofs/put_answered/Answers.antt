-- `bus_lines::put_answered` meets its contract. Assumes nothing.
use Rattle.std.proofs.Common.{◌∙◌}
use Rattle.bus_lines.specs.Lines.{command-length, room-behind, line-roomed, line-put}
use native.Mathlib.Omega.{arith}
use Rattle.bus_lines.proofs.put_answered.Goals as goal

pub put_answer-requires : goal.put_answer-requires
put_answer-requires c = room-behind 3 11 c.put_command.ensures.put (command-length _) (omega (arith, c.requires))

pub returns : goal.returns
returns c = let a = c.args in
    let p = c.put_command.ensures in
    let q = c.put_answer.ensures in
    let r = c.put_byte.ensures.put in
    let both = rw (line-roomed _ _ _ c.requires) at (line-put a.command a.answer a.three c.requires q.three_len_bound p.put q.put.put r.put) in
    record { put = record { same = r.same ∙ q.put.same ∙ p.same; put = both.0 }; three_len_bound = both.1 }
