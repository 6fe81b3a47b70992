use Rattle.fleet_rows.proofs.Waiting.{stored_new}
use Rattle.fleet_rows.proofs.order_rows.OrderRows.new.Goals as goal

pub invariant_of-result : goal.invariant_of-result
invariant_of-result c = stored_new c.new.result.items c.new-2.result c.new-3.result.items _ c.new.ensures.items c.new-2.ensures.empty c.new-3.ensures.items
