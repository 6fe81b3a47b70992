use Rattle.std.proofs.Common.{take}
use Rattle.text_tables.specs.RowsBelow.{AreBelow}
use Rattle.movements.specs.Rows.{IsSilentRow, silent_titles}
use Rattle.movements.proofs.table.silent_rows.Given as goal

abbrev pub invariant-loop-wagon : goal.invariant-loop-wagon
invariant-loop-wagon l = AreBelow (IsSilentRow l.places l.clock) silent_titles (take l.wagon-index l.silent) l.rows.items
