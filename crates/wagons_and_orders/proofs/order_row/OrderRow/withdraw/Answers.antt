use Rattle.wagons_and_orders.proofs.Rows.{row_withdrawn}
use Rattle.wagons_and_orders.proofs.order_row.OrderRow.withdraw.Goals as goal

pub invariant_of-self : goal.invariant_of-self
invariant_of-self c = (rw c.clear.ensures.items (row_withdrawn _ c.self.invariant.0), rw c.clear.ensures.capacity c.self.invariant.1, c.self.invariant.2)
