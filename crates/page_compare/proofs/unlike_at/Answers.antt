-- `page_compare::unlike_at` meets its contract. Assumes nothing.
use Rattle.std.proofs.Common.{rules}
use Rattle.page_compare.specs.Equal.{unlike-is}
use Rattle.page_compare.proofs.unlike_at.Goals as goal

pub returns : goal.returns
returns c = unlike-is _ _ _ c.word_of.ensures c.word_of-2.ensures (search rules)
