-- What a command sends: a cell, a word of the whole pack, or nothing.
-- Assumes nothing.
use Rattle.std.specs.Prelude.{Option, Some, None}
use Rattle.units.specs.declared.CellNo.{CellNo}
use Rattle.bus_table.specs.declared.Sends as declared
use Rattle.bus_table.specs.declared.Sends.TheVariants as row
use Rattle.bus_table.specs.declared.PackWord.{PackWord}

abbrev pub Sends : Type 0
Sends = Option declared.Sends

abbrev pub Nothing : Sends
Nothing = None

abbrev pub Cell : CellNo → Sends
Cell k = Some (row.Cell k)

abbrev pub Whole : PackWord → Sends
Whole w = Some (row.Whole w)
