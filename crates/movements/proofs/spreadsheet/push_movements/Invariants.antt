use Rattle.std.proofs.Common.{take}
use Rattle.movements.specs.Fields.{AreMovementFields}
use Rattle.movements.specs.inner.Made.{AreRowsOf}
use Rattle.movements.proofs.spreadsheet.push_movements.Given as goal

abbrev pub invariant-loop-movement : goal.invariant-loop-movement
invariant-loop-movement l = AreRowsOf (AreMovementFields l.places l.clock) (take l.movement-index l.movements) l.initial.rows.items l.rows.items
