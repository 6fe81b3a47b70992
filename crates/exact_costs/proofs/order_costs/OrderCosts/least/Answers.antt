use Rattle.std.proofs.Common.{arith}
use Rattle.exact_costs.proofs.Sums.{answer_within}
use Rattle.exact_costs.proofs.order_costs.OrderCosts.least.Goals as goal

pub overflow_cast-result : goal.overflow_cast-result
overflow_cast-result c =
    let inside = c.self.inside in
    let le = answer_within inside.less inside.plan c.pairs.result.now inside.prices.u.items inside.prices.v.items c.certified_cost.result c.for_the_prover.ensures c.self.invariant.certified c.pairs.ensures.pairs c.certified_cost.ensures in
    omega (arith, le)

pub returns-clause-limit : goal.returns-clause-limit
returns-clause-limit c =
    let inside = c.self.inside in
    answer_within inside.less inside.plan c.pairs.result.now inside.prices.u.items inside.prices.v.items c.certified_cost.result c.for_the_prover.ensures c.self.invariant.certified c.pairs.ensures.pairs c.certified_cost.ensures
