-- `log_texts::put_told` meets its contract. Assumes nothing.
use Rattle.std.proofs.Common.{◌+◌, ◌≤◌, ◌<◌, length, sym, ◌∙◌, rules, leb-true, leb-false}
use Rattle.text_writing.specs.Writers.{puts-left, puts-none}
use Rattle.text_writing.specs.Rows.{roomed-short, roomed-made}
use Rattle.log_texts.proofs.put_told.Goals as goal
use Rattle.log_texts.proofs.put_told.Goals.{then-has_room, else-has_room}

pub returns : goal.returns
returns c = let b = c.new-w.ensures in
    elim c.if-has_room.branch [
      | then-has_room w ↦
          let h : c.args.at + 35 ≤ length c.args.out.now = rw (b.bytes, b.place) at (leb-true _ _ (sym c.has_room.ensures ∙ w.if-has_room.true)) in
          let both = roomed-made c.args.out.now c.args.at _ _ _ h (puts-left b.bytes b.place (search rules) w.put_answer.ensures.put, w.put_answer.ensures.t_len_bound) in
          rw w.w-is (record { put = both.0; t_len_bound = both.1 })
      | else-has_room w ↦
          let h : length c.args.out.now < c.args.at + 35 = rw (b.bytes, b.place) at (leb-false _ _ (sym c.has_room.ensures ∙ w.if-has_room.false)) in
          let both = roomed-short c.args.out.now c.args.at _ h in
          rw w.w-is (record { put = puts-none b.place (search rules) both.0; t_len_bound = both.1 })
    ]
