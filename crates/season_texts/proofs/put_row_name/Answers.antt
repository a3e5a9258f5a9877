-- `season_texts::put_row_name` meets its contract. Assumes nothing.
use Rattle.std.proofs.Common.{rules, arith}
use Rattle.text_writing.specs.Writers.{puts-left}
use Rattle.season_texts.specs.Writing.{name-short, name-made}
use Rattle.season_texts.proofs.put_row_name.Goals as goal

pub returns-then-out-lt29 : goal.returns-then-out-lt29
returns-then-out-lt29 c = let both = name-short _ _ c.if-out-lt29.true in record { put = both.0; upper_bound = both.1 }

pub put_name-requires : goal.put_name-requires
put_name-requires c = let b = c.new-w.ensures in rw (b.bytes, b.place) c.if-out-lt29.false

pub returns : goal.returns
returns c = let b = c.new-w.ensures in
    let both = name-made _ c.args.j _ _ (omega arith) c.if-out-lt29.false (puts-left b.bytes b.place (search rules) c.put_name.ensures) in
    record { put = both.0; upper_bound = both.1 }
