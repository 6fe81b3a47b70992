use Rattle.std.proofs.Common.{arith}
use Rattle.exact_costs.proofs.Sums.{answer_within}
use Rattle.exact_costs.proofs.least.least_plan.Goals as goal

pub overflow_cast-cost : goal.overflow_cast-cost
overflow_cast-cost c =
    let le = answer_within c.args.cells.now c.in_ok-plan.plan c.pairs-pairs.result.now c.in_ok-plan.prices.u.items c.in_ok-plan.prices.v.items c.certified_cost-cost.result c.for_the_prover.ensures c.in_ok-plan.ensures.certificate c.pairs-pairs.ensures.pairs c.certified_cost-cost.ensures in
    omega (arith, le)

pub returns-clause-limit : goal.returns-clause-limit
returns-clause-limit c =
    answer_within c.args.cells.now c.in_ok-plan.plan c.pairs-pairs.result.now c.in_ok-plan.prices.u.items c.in_ok-plan.prices.v.items c.certified_cost-cost.result c.for_the_prover.ensures c.in_ok-plan.ensures.certificate c.pairs-pairs.ensures.pairs c.certified_cost-cost.ensures
