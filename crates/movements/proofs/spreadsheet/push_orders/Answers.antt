use Rattle.std.proofs.Common.{arith}
use Rattle.movements.proofs.Made.{AreRowsOf-more}
use Rattle.movements.specs.Fields.{AreOrderFields}
use Rattle.movements.proofs.spreadsheet.push_orders.Goals as goal

pub loop-need-preserved : goal.loop-need-preserved
loop-need-preserved c =
    AreRowsOf-more (AreOrderFields c.args.places.now c.args.clock.now) c.args.orders.now c.args.rows.now.items c.loop-need.rows.items c.push.new.self.items c.loop-need.need-index c.need-item.result c.need-item.result c.in_ok-order_fields.field-0
    c.loop-need.invariant (omega arith) c.need-item.is c.in_ok-order_fields.ensures c.in_ok-push.ensures.items
