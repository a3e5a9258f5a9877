-- `log_texts::put_decision` meets its contract. Assumes nothing.
use Rattle.log_texts.specs.Writing.{decision-put}
use Rattle.log_texts.proofs.put_decision.Goals as goal

pub returns : goal.returns
returns c = let both = decision-put c.args.d c.requires (c.put_row.ensures.put.put, c.put_row.ensures.fifth_len_bound) in
    record { put = record { same = c.put_row.ensures.put.same; put = both.0 }; d_len_bound = both.1 }
