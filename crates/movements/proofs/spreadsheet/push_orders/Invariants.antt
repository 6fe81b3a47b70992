use Rattle.std.proofs.Common.{take}
use Rattle.movements.specs.Fields.{AreOrderFields}
use Rattle.movements.specs.inner.Made.{AreRowsOf}
use Rattle.movements.proofs.spreadsheet.push_orders.Given as goal

abbrev pub invariant-loop-need : goal.invariant-loop-need
invariant-loop-need l = AreRowsOf (AreOrderFields l.places l.clock) (take l.need-index l.orders) l.initial.rows.items l.rows.items
