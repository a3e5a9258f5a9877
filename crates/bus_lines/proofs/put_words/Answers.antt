-- `bus_lines::put_words` meets its contract
use Rattle.std.proofs.Common.{◌∙◌, refl, rules, arith}
use Rattle.text_writing.specs.Writers.{put-left}
use Rattle.bus_lines.specs.Lines.{putting-start, putting-place, putting-on, putting-end, roomed-not}
use Rattle.bus_lines.proofs.put_words.Goals as goal
use Rattle.bus_lines.proofs.put_words.Goals.{else-loop-c-test, then-loop-c-test+else-c-last}

pub returns-then-out-lt-ROOM : goal.returns-then-out-lt-ROOM
returns-then-out-lt-ROOM c = let both = roomed-not _ _ c.if-out-lt-ROOM.true in record { put = both.0; upper_bound = both.1 }

pub loop-c-init : goal.loop-c-init
loop-c-init c = let b = c.new-w.ensures in
    record { lines = rw b.place (putting-start _ _); room = rw b.bytes (omega arith); same = refl }

pub put_line-requires : goal.put_line-requires
put_line-requires c = let i = c.loop-c.invariant in
    let place = putting-place i.lines i.room (omega arith) in
    omega (arith, place.0, place.1, i.room)

pub loop-c-preserved : goal.loop-c-preserved
loop-c-preserved c = let i = c.loop-c.invariant in
    let p = c.put_line.ensures in
    record {
      lines = putting-on i.lines i.room (omega arith) _ _ p.put.put p.command_len_bound;
      room = i.room;
      same = p.put.same ∙ i.same;
    }

-- Behind the last line.
pub returns : goal.returns
returns c = let i = c.loop-c.invariant in
    elim c.loop-c-test.branch [
      | else-loop-c-test w ↦ absurd (omega (arith, w.loop-c-test.false))
      | then-loop-c-test+else-c-last w ↦
          let p = w.put_line.ensures in
          let on = putting-on i.lines i.room (omega arith) _ _ p.put.put p.command_len_bound in
          let both = rw c.new-w.ensures.bytes at (putting-end _ _ _ _ _ on i.room (omega arith)) in
          let same = p.put.same ∙ i.same in
          rw w.w-is (record { put = put-left (search rules) both.0; upper_bound = both.1 })
    ]
