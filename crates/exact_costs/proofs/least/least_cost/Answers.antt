use Rattle.std.proofs.Common.{arith}
use Rattle.exact_costs.proofs.Sums.{answer_within}
use Rattle.exact_costs.proofs.least.least_cost.Goals as goal

pub overflow_cast-result : goal.overflow_cast-result
overflow_cast-result c =
    let le = answer_within c.args.cells.now c.in_ok-plan.plan c.pairs.result.now c.in_ok-plan.prices.u.items c.in_ok-plan.prices.v.items c.certified_cost.result c.for_the_prover.ensures c.in_ok-plan.ensures.certificate c.pairs.ensures.pairs c.certified_cost.ensures in
    omega (arith, le)

pub returns-clause-limit : goal.returns-clause-limit
returns-clause-limit c =
    answer_within c.args.cells.now c.in_ok-plan.plan c.pairs.result.now c.in_ok-plan.prices.u.items c.in_ok-plan.prices.v.items c.certified_cost.result c.for_the_prover.ensures c.in_ok-plan.ensures.certificate c.pairs.ensures.pairs c.certified_cost.ensures
