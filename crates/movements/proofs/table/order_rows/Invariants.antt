use Rattle.std.proofs.Common.{take}
use Rattle.text_tables.specs.RowsBelow.{AreBelow}
use Rattle.movements.specs.Rows.{IsOrderRow, order_titles}
use Rattle.movements.proofs.table.order_rows.Given as goal

abbrev pub invariant-loop-need : goal.invariant-loop-need
invariant-loop-need l = AreBelow (IsOrderRow l.places l.clock) order_titles (take l.need-index l.orders) l.rows.items
