-- `pack_why::lines::put_cell_line` meets its contract. Assumes nothing.
use Rattle.std.proofs.Common.{◌∙◌, arith}
use Rattle.pack_why.specs.Lines.{room-behind, cell-put}
use Rattle.pack_why.proofs.lines.put_cell_line.Goals as goal

pub put_cell_reason-requires : goal.put_cell_reason-requires
put_cell_reason-requires c = let name = c.put_cell_name.ensures in room-behind 9 21 name.put.put name.cell_len_bound (omega (arith, c.requires))

pub returns : goal.returns
returns c =
    let name = c.put_cell_name.ensures in
    let reason = c.put_cell_reason.ensures in
    let both = cell-put _ _ _ c.why_cell.ensures.0 name.cell_len_bound reason.why_len_bound c.requires name.put.put reason.put.put in
    record { put = record { same = reason.put.same ∙ name.put.same; put = both.0 }; cell_len_bound = both.1 }
