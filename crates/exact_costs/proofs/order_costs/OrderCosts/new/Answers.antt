use Rattle.exact_costs.proofs.OneLess.{is_one_less}
use Rattle.exact_costs.proofs.order_costs.OrderCosts.new.Goals as goal

pub invariant_of-result : goal.invariant_of-result
invariant_of-result c =
    is_one_less c.new-costs.result
    (record { table = c.args.cells.now; pairs = c.args.plan.now; u = c.args.prices.now.u.items; v = c.args.prices.now.v.items })
    c.new-costs.ensures c.args.j
    (record { table = c.in_ok-less.less; pairs = c.in_ok-plan.plan; u = c.in_ok-plan.prices.u.items; v = c.in_ok-plan.prices.v.items })
    c.for_the_prover.ensures c.requires.order c.in_ok-less.ensures c.in_ok-plan.ensures.certificate
