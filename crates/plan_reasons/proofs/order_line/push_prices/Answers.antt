use Rattle.std.proofs.Common.{arith}
use Rattle.plan_reasons.proofs.Arrivals.{order_count-table}
use Rattle.plan_reasons.proofs.order_line.push_prices.Goals as goal

pub price-requires : goal.price-requires
price-requires c =
    let planned = c.args.planned.now in
    rw c.bounds-bounds.ensures.value (omega (arith, c.requires.order, order_count-table planned.network planned.problem planned.priced.table c.bounds-bounds.ensures.table))

pub push_further-requires-clause-order : goal.push_further-requires-clause-order
push_further-requires-clause-order c =
    let planned = c.args.planned.now in
    omega (arith, c.requires.order, order_count-table planned.network planned.problem planned.priced.table c.bounds-bounds.ensures.table)
