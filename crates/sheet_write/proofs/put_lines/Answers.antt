-- `sheet_write::put_lines` meets its contract
use Rattle.std.proofs.Common.{◌<◌, take, refl, ap, ◌∙◌, rules, arith}
use Rattle.sheet_names.specs.Names.{last-few}
use Rattle.sheet_write.specs.Lines.{putting-start, putting-place, putting-on, putting-end}
use Rattle.sheet_write.proofs.put_lines.Goals as goal
use Rattle.sheet_write.proofs.put_lines.Goals.{else-loop-i-test, then-loop-i-test+else-i-i-end}

pub loop-i-init : goal.loop-i-init
loop-i-init c = let b = c.new-w.ensures in
    record { put = rw b.place (putting-start _ _ _); room = rw b.bytes c.requires; same = refl }

pub put_line-requires : goal.put_line-requires
put_line-requires c = let l = c.loop-i in
    let few = last-few c.args.long in
    let z = putting-place l.invariant.put l.invariant.room (omega arith) in
    (omega arith, omega arith)

pub loop-i-preserved : goal.loop-i-preserved
loop-i-preserved c = let l = c.loop-i in
    let few = last-few c.args.long in
    let p = c.put_line.ensures in
    let below : l.i < 80 = omega arith in
    record {
      put = putting-on l.invariant.put l.invariant.room (omega arith) below _ _ _ c.value_at.ensures p.put.put p.v_len_bound;
      room = l.invariant.room;
      same = p.put.same ∙ l.invariant.same;
    }

pub returns : goal.returns
returns c = let l = c.loop-i in
    let few = last-few c.args.long in
    elim c.loop-i-test.branch [
      | else-loop-i-test w ↦ absurd (omega (arith, w.loop-i-test.false))
      | then-loop-i-test+else-i-i-end w ↦
          let p = w.put_line.ensures in
          let below : l.i < 80 = omega arith in
          let on = rw c.new-w.ensures.bytes at (putting-on l.invariant.put l.invariant.room (omega arith) below _ _ _ w.value_at.ensures p.put.put p.v_len_bound) in
          let k = putting-end on (omega arith) (omega arith) (omega arith) in
          let same = p.put.same ∙ l.invariant.same in
          rw w.w-is (record { value = k.0; out_after = ap (take w.put_line.new.w.at) (search rules) ∙ k.1; upper_bound = k.2 })
    ]
