-- `log_texts::put_opening` meets its contract. Assumes nothing.
use Rattle.std.proofs.Common.{◌+◌, ◌≤◌, ◌<◌, length, sym, ◌∙◌, rules, leb-true, leb-false}
use Rattle.text_writing.specs.Writers.{puts-left, puts-none}
use Rattle.text_writing.specs.Rows.{roomed-short, roomed-put}
use Rattle.log_texts.specs.Room.{opened}
use Rattle.log_texts.proofs.put_opening.Goals as goal
use Rattle.log_texts.proofs.put_opening.Goals.{then-has_room, else-has_room}

pub returns : goal.returns
returns c = let b = c.new-w.ensures in
    elim c.if-has_room.branch [
      | then-has_room w ↦
          let h : 0 + 35 ≤ length c.args.out.now = rw (b.bytes, b.place) at (leb-true _ _ (sym c.has_room.ensures ∙ w.if-has_room.true)) in
          rw w.w-is (opened (roomed-put c.args.out.now 0 _ _ _ h (puts-left b.bytes b.place (search rules) w.put_before.ensures)))
      | else-has_room w ↦
          let h : length c.args.out.now < 0 + 35 = rw (b.bytes, b.place) at (leb-false _ _ (sym c.has_room.ensures ∙ w.if-has_room.false)) in
          rw w.w-is (opened (puts-none b.place (search rules) (roomed-short c.args.out.now 0 _ h).0))
    ]
