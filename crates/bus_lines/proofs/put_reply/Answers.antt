-- `bus_lines::put_reply` meets its contract. Assumes nothing.
use Rattle.std.proofs.Common.{◌+◌, ◌≤◌, ◌<◌, length, sym, ◌∙◌, rules, leb-true, leb-false}
use Rattle.text_writing.specs.Writers.{puts-left, puts-none}
use Rattle.bus_lines.specs.Lines.{line-short, line-made}
use Rattle.bus_lines.proofs.put_reply.Goals as goal
use Rattle.bus_lines.proofs.put_reply.Goals.{then-has_room, else-has_room}

pub returns : goal.returns
returns c = let b = c.new-w.ensures in
    elim c.if-has_room.branch [
      | then-has_room w ↦
          let h : c.args.at + 15 ≤ length c.args.out.now = rw (b.bytes, b.place) at (leb-true _ _ (sym c.has_room.ensures ∙ w.if-has_room.true)) in
          let p = w.put_answered.ensures in
          let both = line-made c.args.out.now c.args.at _ _ _ h (puts-left b.bytes b.place (search rules) p.put, p.three_len_bound) in
          rw w.w-is (record { put = both.0; three_len_bound = both.1 })
      | else-has_room w ↦
          let h : length c.args.out.now < c.args.at + 15 = rw (b.bytes, b.place) at (leb-false _ _ (sym c.has_room.ensures ∙ w.if-has_room.false)) in
          let both = line-short c.args.out.now c.args.at _ h in
          rw w.w-is (record { put = puts-none b.place (search rules) both.0; three_len_bound = both.1 })
    ]
