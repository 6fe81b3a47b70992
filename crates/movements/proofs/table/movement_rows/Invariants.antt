use Rattle.std.proofs.Common.{take}
use Rattle.text_tables.specs.RowsBelow.{AreBelow}
use Rattle.movements.specs.Rows.{IsMovementRow, movement_titles}
use Rattle.movements.proofs.table.movement_rows.Given as goal

abbrev pub invariant-loop-movement : goal.invariant-loop-movement
invariant-loop-movement l = AreBelow (IsMovementRow l.places l.clock) movement_titles (take l.movement-index l.movements) l.rows.items
