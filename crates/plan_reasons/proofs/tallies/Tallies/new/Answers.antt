use Rattle.cost_table.proofs.CostLemmas.{orders_in_range}
use Rattle.plan_reasons.proofs.tallies.Tallies.new.Goals as goal

pub served-requires : goal.served-requires
served-requires c =
    let t = c.args.planned.now.priced.table in
    let range = orders_in_range t c.args.planned.now.priced.pairs c.plan.ensures.certified.plan.allowed in
    rw (c.pairs.ensures.pairs, c.plan.ensures.value, c.orders.ensures.count, c.cells-3.ensures) range
