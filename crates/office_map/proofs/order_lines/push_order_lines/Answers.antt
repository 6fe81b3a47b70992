use Rattle.std.proofs.Common.{◌+◌, take, sym, string_bytes, arith}
use Rattle.reply_texts.proofs.Lines.{Adds-line, Adds-lines-along, taken_more}
use Rattle.office_map.specs.Orders.{IsOrderLine}
use Rattle.office_map.proofs.order_lines.push_order_lines.Goals as goal

pub loop-order-preserved : goal.loop-order-preserved
loop-order-preserved c =
    let is_line = IsOrderLine c.args.wagons.now in
    let orders = c.args.orders.now in
    let i = c.loop-order.order-index in
    let order = c.order-item.result in
    Adds-lines-along is_line _ (take (i + 1) orders) _ _ (sym (taken_more orders i order order (omega arith) c.order-item.is)) (Adds-line is_line (take i orders) order (string_bytes c.args.text.now) (string_bytes c.loop-order.text) _ c.loop-order.invariant (c.in_ok-push_order_line.ensures {u = tt}))
