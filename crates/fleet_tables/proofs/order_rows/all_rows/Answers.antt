use Rattle.std.proofs.Common.{arith}
use Rattle.fleet_tables.specs.OrderRows.{IsRowOfOrder, titles_in}
use Rattle.text_tables.proofs.RowsBelow.{AreBelow-more}
use Rattle.fleet_tables.proofs.order_rows.all_rows.Goals as goal

pub loop-order-preserved : goal.loop-order-preserved
loop-order-preserved c =
    AreBelow-more (IsRowOfOrder c.args.form c.args.places.now c.args.clock.now) (titles_in c.args.form) c.args.orders.now c.loop-order.rows.items c.push-in-loop-order.new.self.items c.loop-order.order-index c.order-item.result c.order-item.result c.in_ok-order_row.field-0
    c.loop-order.invariant (omega arith) c.order-item.is c.in_ok-order_row.ensures c.in_ok-push-2.ensures.items
