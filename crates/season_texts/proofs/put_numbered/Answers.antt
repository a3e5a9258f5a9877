-- `season_texts::put_numbered` meets its contract. Assumes nothing.
use Rattle.std.proofs.Common.{◌∙◌, arith}
use Rattle.season_texts.specs.Writing.{numbered-put}
use Rattle.season_texts.proofs.put_numbered.Goals as goal

pub returns : goal.returns
returns c =
    let front = c.put_bytes.ensures.put in
    let number = c.put_decimal.ensures.put in
    let back = c.put_bytes-2.ensures.put in record {
      same = back.same ∙ number.same ∙ front.same;
      put = numbered-put _ c.args.k _ (omega arith) c.requires front.put (rw c.from.ensures at number.put) back.put;
    }
