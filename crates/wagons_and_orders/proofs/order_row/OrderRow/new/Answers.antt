use Rattle.std.proofs.Common.{arith}
use Rattle.wagons_and_orders.proofs.Rows.{row_placed}
use Rattle.wagons_and_orders.proofs.order_row.OrderRow.new.Goals as goal

pub invariant_of-result : goal.invariant_of-result
invariant_of-result c =
    let first = c.in_ok-with_capacity.ensures in
    let second = c.in_ok-with_capacity-2.ensures in
    let wagons = c.wagons-room.ensures.value in
    (rw (first.items, second.items) (row_placed c.args.text), omega (arith, first.capacity, wagons), omega (arith, second.capacity, wagons))
