-- `season_texts::put_report` meets its contract. Assumes nothing.
use Rattle.std.proofs.Common.{◌≡◌, ◌∙◌, refl, rules, arith}
use Rattle.text_writing.specs.Writers.{put-left}
use Rattle.season_texts.specs.Lines.{putting-start, putting-place, putting-on}
use Rattle.season_texts.specs.Writing.{row-few, report-short, report-made}
use Rattle.season_texts.proofs.put_report.Goals as goal

pub returns-then-out-lt-ROOM : goal.returns-then-out-lt-ROOM
returns-then-out-lt-ROOM c = let both = report-short _ _ _ c.if-out-lt-ROOM.true in record { put = both.0; upper_bound = both.1 }

pub loop-j-init : goal.loop-j-init
loop-j-init c = let b = c.new-w.ensures in
    record { putting = rw b.place (putting-start _ 41 _); room = rw b.bytes (omega arith); same = refl }

pub put_line-requires : goal.put_line-requires
put_line-requires c = let i = c.loop-j.invariant in
    let k = c.lines_for-j-end.ensures.upper_bound in
    let z = putting-place _ i.putting (omega (arith, i.room)) in
    omega (arith, z.0, z.1, i.room)

pub loop-j-preserved : goal.loop-j-preserved
loop-j-preserved c = let i = c.loop-j.invariant in
    let k = c.lines_for-j-end.ensures.upper_bound in
    let p = c.put_line.ensures in record {
      putting = putting-on _ i.putting (omega (arith, i.room)) _ _ (rw c.figure_at.ensures at p.put) (row-few _ _ (omega arith) (omega arith));
      room = i.room;
      same = p.same ∙ i.same;
    }

pub returns : goal.returns
returns c = let i = c.loop-j.invariant in
    let n = c.lines_for-j-end in
    let e : c.loop-j.j ≡ n.result = omega arith in
    let both = rw c.new-w.ensures.bytes at (report-made _ _ _ _ _ _ i.room (e ∙ n.ensures.value) (omega (arith, n.ensures.value, n.ensures.upper_bound)) i.putting) in
    let same = i.same in
    record { put = put-left (search rules) both.0; upper_bound = both.1 }
