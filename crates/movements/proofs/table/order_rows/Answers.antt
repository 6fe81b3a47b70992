use Rattle.std.proofs.Common.{arith}
use Rattle.text_tables.proofs.RowsBelow.{AreBelow-more}
use Rattle.movements.specs.Rows.{IsOrderRow, order_titles}
use Rattle.movements.proofs.table.order_rows.Goals as goal

pub loop-need-preserved : goal.loop-need-preserved
loop-need-preserved c =
    AreBelow-more (IsOrderRow c.args.places.now c.args.clock.now) order_titles c.args.orders.now c.loop-need.rows.items c.push-in-loop-need.new.self.items c.loop-need.need-index c.need-item.result c.need-item.result c.in_ok-order_row.field-0
    c.loop-need.invariant (omega arith) c.need-item.is c.in_ok-order_row.ensures c.in_ok-push-2.ensures.items
