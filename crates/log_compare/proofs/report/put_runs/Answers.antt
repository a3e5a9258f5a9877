-- `log_compare::report::put_runs` meets its contract. Assumes nothing.
use Rattle.std.proofs.Common.{◌≡◌, ◌≤◌, ◌∙◌, length, rules, arith}
use Rattle.text_writing.specs.Writers.{put-left}
use Rattle.log_compare.specs.Report.{runs_text, Front, front-room, front-on, runs-not, runs-end}
use Rattle.log_compare.proofs.report.put_runs.Goals as goal

pub returns-then-out-lt-ROOM : goal.returns-then-out-lt-ROOM
returns-then-out-lt-ROOM c = let both = runs-not _ _ c.if-out-lt-ROOM.true in record { put = both.0; upper_bound = both.1 }

pub put_first-requires : goal.put_first-requires
put_first-requires c = (c.new-w.ensures.place, rw c.new-w.ensures.bytes (omega arith))

pub put_row-requires : goal.put_row-requires
put_row-requires c =
    let left : 161 ≤ length c.new-w.result.out.now = rw c.new-w.ensures.bytes c.if-out-lt-ROOM.false in
    let f0 : Front _ _ 26 _ _ = record { put = rw c.new-w.ensures.place at c.put_first.ensures.put.put; few = c.put_first.ensures.line_len_bound } in
    front-room 26 f0 (omega (arith, left))

pub put_row-requires-2 : goal.put_row-requires-2
put_row-requires-2 c =
    let left : 161 ≤ length c.new-w.result.out.now = rw c.new-w.ensures.bytes c.if-out-lt-ROOM.false in
    let f0 : Front _ _ 26 _ _ = record { put = rw c.new-w.ensures.place at c.put_first.ensures.put.put; few = c.put_first.ensures.line_len_bound } in
    let f1 = front-on 26 f0 (omega (arith, left)) (c.put_row.ensures.put.put, c.put_row.ensures.v_in_bounds) in
    front-room 28 f1 (omega (arith, left))

pub put_row-requires-3 : goal.put_row-requires-3
put_row-requires-3 c =
    let left : 161 ≤ length c.new-w.result.out.now = rw c.new-w.ensures.bytes c.if-out-lt-ROOM.false in
    let f0 : Front _ _ 26 _ _ = record { put = rw c.new-w.ensures.place at c.put_first.ensures.put.put; few = c.put_first.ensures.line_len_bound } in
    let f1 = front-on 26 f0 (omega (arith, left)) (c.put_row.ensures.put.put, c.put_row.ensures.v_in_bounds) in
    let f2 = front-on 28 f1 (omega (arith, left)) (c.put_row-2.ensures.put.put, c.put_row-2.ensures.v_in_bounds) in
    front-room 26 f2 (omega (arith, left))

pub put_row-requires-4 : goal.put_row-requires-4
put_row-requires-4 c =
    let left : 161 ≤ length c.new-w.result.out.now = rw c.new-w.ensures.bytes c.if-out-lt-ROOM.false in
    let f0 : Front _ _ 26 _ _ = record { put = rw c.new-w.ensures.place at c.put_first.ensures.put.put; few = c.put_first.ensures.line_len_bound } in
    let f1 = front-on 26 f0 (omega (arith, left)) (c.put_row.ensures.put.put, c.put_row.ensures.v_in_bounds) in
    let f2 = front-on 28 f1 (omega (arith, left)) (c.put_row-2.ensures.put.put, c.put_row-2.ensures.v_in_bounds) in
    let f3 = front-on 26 f2 (omega (arith, left)) (c.put_row-3.ensures.put.put, c.put_row-3.ensures.v_in_bounds) in
    front-room 29 f3 (omega (arith, left))

pub put_row-requires-5 : goal.put_row-requires-5
put_row-requires-5 c =
    let left : 161 ≤ length c.new-w.result.out.now = rw c.new-w.ensures.bytes c.if-out-lt-ROOM.false in
    let f0 : Front _ _ 26 _ _ = record { put = rw c.new-w.ensures.place at c.put_first.ensures.put.put; few = c.put_first.ensures.line_len_bound } in
    let f1 = front-on 26 f0 (omega (arith, left)) (c.put_row.ensures.put.put, c.put_row.ensures.v_in_bounds) in
    let f2 = front-on 28 f1 (omega (arith, left)) (c.put_row-2.ensures.put.put, c.put_row-2.ensures.v_in_bounds) in
    let f3 = front-on 26 f2 (omega (arith, left)) (c.put_row-3.ensures.put.put, c.put_row-3.ensures.v_in_bounds) in
    let f4 = front-on 29 f3 (omega (arith, left)) (c.put_row-4.ensures.put.put, c.put_row-4.ensures.v_in_bounds) in
    front-room 26 f4 (omega (arith, left))

pub returns : goal.returns
unfolding runs_text
returns c =
    let left : 161 ≤ length c.new-w.result.out.now = rw c.new-w.ensures.bytes c.if-out-lt-ROOM.false in
    let f0 : Front _ _ 26 _ _ = record { put = rw c.new-w.ensures.place at c.put_first.ensures.put.put; few = c.put_first.ensures.line_len_bound } in
    let f1 = front-on 26 f0 (omega (arith, left)) (c.put_row.ensures.put.put, c.put_row.ensures.v_in_bounds) in
    let f2 = front-on 28 f1 (omega (arith, left)) (c.put_row-2.ensures.put.put, c.put_row-2.ensures.v_in_bounds) in
    let f3 = front-on 26 f2 (omega (arith, left)) (c.put_row-3.ensures.put.put, c.put_row-3.ensures.v_in_bounds) in
    let f4 = front-on 29 f3 (omega (arith, left)) (c.put_row-4.ensures.put.put, c.put_row-4.ensures.v_in_bounds) in
    let f5 = front-on 26 f4 (omega (arith, left)) (c.put_row-5.ensures.put.put, c.put_row-5.ensures.v_in_bounds) in
    let both = rw c.new-w.ensures.bytes at (runs-end c.args.f left (omega (arith, left)) f5) in
    let same = c.put_row-5.ensures.put.same ∙ c.put_row-4.ensures.put.same ∙ c.put_row-3.ensures.put.same ∙ c.put_row-2.ensures.put.same ∙ c.put_row.ensures.put.same ∙ c.put_first.ensures.put.same in
    record { put = put-left (search rules) both.0; upper_bound = both.1 }
