-- `pack_why::lines::put_switch_lines` meets its contract. Assumes nothing.
use Rattle.std.proofs.Common.{◌∙◌, arith}
use Rattle.pack_why.specs.Lines.{room-behind, switches-put}
use Rattle.pack_why.proofs.lines.put_switch_lines.Goals as goal

pub put_switch_line-requires-2 : goal.put_switch_line-requires-2
put_switch_line-requires-2 c = let first = c.put_switch_line.ensures in room-behind 31 31 first.put.put first.s_len_bound (omega (arith, c.requires))

pub returns : goal.returns
returns c =
    let first = c.put_switch_line.ensures in
    let second = c.put_switch_line-2.ensures in
    let both = switches-put _ (omega (arith, c.requires)) (first.put.put, first.s_len_bound) (second.put.put, second.s_len_bound) in
    record { put = record { same = second.put.same ∙ first.put.same; put = both.0 }; p_len_bound = both.1 }
