use Rattle.std.proofs.Common.{rules}
use Rattle.fleet_rows.proofs.Orders.{copy_follows}
use Rattle.fleet_rows.proofs.order_rows.OrderRows.copy.Goals as goal

pub push_row-requires-clause-new : goal.push_row-requires-clause-new
push_row-requires-clause-new c =
    (copy_follows c.self.inside.rows.items c.deref-row-items.result.now c.loop-row.copy c.loop-row.row-index c.in_ok-copy.field-0 c.self.invariant.rows_kept.kept c.deref-row-items.ensures.value c.loop-row-test.true (search rules) c.loop-row.invariant).0

pub push_row-requires-clause-few_open : goal.push_row-requires-clause-few_open
push_row-requires-clause-few_open c =
    (copy_follows c.self.inside.rows.items c.deref-row-items.result.now c.loop-row.copy c.loop-row.row-index c.in_ok-copy.field-0 c.self.invariant.rows_kept.kept c.deref-row-items.ensures.value c.loop-row-test.true (search rules) c.loop-row.invariant).1
