-- `season_texts::put_line` meets its contract. Assumes nothing.
use Rattle.std.proofs.Common.{◌∙◌, arith}
use Rattle.text_writing.specs.Rows.{put-room}
use Rattle.season_texts.specs.Writing.{name-few, line-put}
use Rattle.season_texts.proofs.put_line.Goals as goal

pub put_value-requires : goal.put_value-requires
put_value-requires c = let a = c.args in
    put-room 12 c.put_name.ensures.put (omega (arith, name-few a.j (omega arith), c.requires))

pub returns : goal.returns
returns c = let a = c.args in record {
  same = c.put_value.ensures.same ∙ c.put_name.ensures.same;
  put = line-put a.j a.v (omega arith) (omega arith) c.requires c.put_name.ensures.put c.put_value.ensures.put;
}
