-- `page_compare::put_pages` meets its contract
use Rattle.std.proofs.Common.{◌≡◌, sym, ◌∙◌, refl, rules, arith}
use Rattle.text_writing.specs.Writers.{put-left}
use Rattle.page_compare.specs.Report.{telling-start, telling-room, telling-unlike, telling-alike, telling-last, telling-end, pages-not}
use Rattle.page_compare.proofs.put_pages.Goals as goal
use Rattle.page_compare.proofs.put_pages.Goals.{then-unlike_at, else-unlike_at}

pub returns-then-out-lt-ROOM : goal.returns-then-out-lt-ROOM
returns-then-out-lt-ROOM c = let both = pages-not _ _ _ c.if-out-lt-ROOM.true in record { put = both.0; upper_bound = both.1 }

pub loop-i-init : goal.loop-i-init
loop-i-init c = let b = c.new-w.ensures in
    record { told = rw b.place (telling-start _ _ _); room = rw b.bytes (omega arith); same = refl }

pub loop-i-preserved : goal.loop-i-preserved
loop-i-preserved c = let i = c.loop-i.invariant in
    elim c.if-unlike_at.branch [
      | then-unlike_at w ↦ let p = w.put_word_line.ensures in record {
        told = rw (w.w-is, w.n-is) (telling-unlike i.told i.room (omega arith) (sym c.unlike_at.ensures ∙ w.if-unlike_at.true) (p.put.put, p.i_len_bound));
        room = i.room;
        same = rw w.w-is (p.put.same ∙ i.same);
      }
      | else-unlike_at w ↦ record {
        told = rw (w.w-is, w.n-is) (telling-alike i.told i.room (omega arith) (sym c.unlike_at.ensures ∙ w.if-unlike_at.false));
        room = i.room;
        same = rw w.w-is i.same;
      }
    ]

pub put_word_line-requires : goal.put_word_line-requires
put_word_line-requires c = let i = c.loop-i.invariant in (telling-room i.told i.room (omega arith), omega arith)

pub put_count-requires : goal.put_count-requires
put_count-requires c = let i = c.loop-i.invariant in telling-last i.told i.room (omega arith)

pub returns : goal.returns
returns c = let i = c.loop-i.invariant in
    let p = c.put_count.ensures in
    let both = rw c.new-w.ensures.bytes at (telling-end i.told i.room (omega arith) (p.put.put, p.n_len_bound)) in
    let same = p.put.same ∙ i.same in
    record { put = put-left (search rules) both.0; upper_bound = both.1 }
