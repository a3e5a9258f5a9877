-- `sheet_read::read_lines` meets its contract. The loop keeps: what is left of the sheet says the rest of what the whole says. Assumes nothing.
use Prim.Native.Nat.{◌+◌, ◌-◌}
use Rattle.sheet_names.specs.Names.{layout_for}
use Rattle.sheet_read.specs.Steps.{Going}
use Rattle.sheet_read.proofs.read_lines.Given as goal

abbrev pub invariant-loop-i : goal.invariant-loop-i
invariant-loop-i l = Going (layout_for l.long) l.text l.at l.i ((layout_for l.long).last + 1 - l.i) l.draft
