-- `sheet_names::prefix` meets its contract. Assumes nothing.
use mathlib.Core.Path.{sym}
use Rattle.laws.specs.Numbered.{list_from}
use Rattle.text_fields.specs.Decimal.{decimal}
use Rattle.protections.specs.Table.{table}
use Rattle.sheet_names.specs.Names.{name_at, prefix_at}
use Rattle.sheet_names.specs.Prefixes.{prefix_list, prefix-past, now-at, row-is}
use Rattle.sheet_names.proofs.prefix.Goals as goal

pub returns-then-last_line-i : goal.returns-then-last_line-i
returns-then-last_line-i c = sym (prefix-past _ _ (rw c.last_line.ensures at c.if-last_line-i.true))

pub returns : goal.returns
unfolding prefix_list prefix_at name_at list_from decimal table
returns c = let a = c.args in rw now-at (row-is a.long a.i _ c.row_for.ensures (rw c.last_line.ensures at c.if-last_line-i.false))
