-- Two results that one contract allows are equal, for every public function. The contract is the one that Rattle reads out of the source (`Reads.Post`).
-- Assumes nothing.
use mathlib.Core.Path.{sym, ◌∙◌}
use Rattle.laws.specs.Unique.{Unique}
use Rattle.bus_table.proofs.row_of_command.Reads as row-of-command
use Rattle.bus_table.proofs.row_of_command.Kinds as row-of-command-kinds

row-of-command-one : Unique 0 row-of-command-kinds.ps row-of-command-kinds.r row-of-command.Post
row-of-command-one κs a x y s t p q = p ∙ sym q
