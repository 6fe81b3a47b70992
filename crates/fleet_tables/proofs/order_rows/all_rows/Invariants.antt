use Rattle.std.proofs.Common.{take}
use Rattle.fleet_tables.specs.OrderRows.{IsRowOfOrder, titles_in}
use Rattle.text_tables.specs.RowsBelow.{AreBelow}
use Rattle.fleet_tables.proofs.order_rows.all_rows.Given as goal

abbrev pub invariant-loop-order : goal.invariant-loop-order
invariant-loop-order l = AreBelow (IsRowOfOrder l.form l.places l.clock) (titles_in l.form) (take l.order-index l.orders) l.rows.items
