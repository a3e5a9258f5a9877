-- `pack_why::lines::put_why` meets its contract. Assumes nothing.
use Rattle.std.proofs.Common.{◌≤◌, ◌∙◌, length, refl, rules, arith}
use Rattle.text_writing.specs.Writers.{puts-left, put-left}
use Rattle.pack_why.specs.Lines.{roomed-not, room-behind, why-put}
use Rattle.pack_why.proofs.lines.put_why.Goals as goal

pub returns-then-out-lt-ROOM : goal.returns-then-out-lt-ROOM
returns-then-out-lt-ROOM c = let both = roomed-not _ _ _ c.if-out-lt-ROOM.true in record { put = both.0; upper_bound = both.1 }

pub put_switch_lines-requires : goal.put_switch_lines-requires
put_switch_lines-requires c = let b = c.new-w.ensures in rw (b.bytes, b.place) (omega arith)

pub put_cell_lines-requires : goal.put_cell_lines-requires
put_cell_lines-requires c = let b = c.new-w.ensures in
    let left : 372 ≤ length c.new-w.result.out.now = rw b.bytes c.if-out-lt-ROOM.false in
    let switches = c.put_switch_lines.ensures in
    room-behind 62 310 switches.put.put switches.p_len_bound (omega (arith, left, b.place))

pub returns : goal.returns
returns c = let b = c.new-w.ensures in
    let switches = rw c.k.view_is at (puts-left b.bytes b.place refl c.put_switch_lines.ensures.put) in
    let few = rw c.k.view_is at c.put_switch_lines.ensures.p_len_bound in
    let cells = c.put_cell_lines.ensures in
    let both = why-put _ c.if-out-lt-ROOM.false (switches, few) (cells.put.put, cells.n_len_bound) in
    let same = cells.put.same ∙ c.put_switch_lines.ensures.put.same in
    record { put = put-left (search rules) both.0; upper_bound = both.1 }
