use Rattle.std.proofs.Common.{subst}
use Rattle.plan_bounds.specs.PricedPlan.{PricedPlan}
use Rattle.plan_bounds.specs.Bounds.{HasPair}
use Rattle.exact_costs.specs.LeastCosts.{BestCostsMore}
use Rattle.plan_reasons.proofs.Arrivals.{of_some}
use Rattle.plan_reasons.proofs.Passing.{passing_allowed}
use Rattle.plan_reasons.proofs.numbers.more_exactly.Goals as goal

pub unwrap-requires : goal.unwrap-requires
unwrap-requires c =
    let planned = c.args.planned.now in
    let allowed = passing_allowed planned.network planned.problem planned.priced.table c.exact_costs-costs.ensures.table c.args.pair c.requires.0 c.requires.1 in
    c.in_ok-more.ensures.allowed.1 (rw c.exact_costs-costs.ensures.value allowed)

pub returns : goal.returns
returns c =
    let pair = c.args.pair in
    let best = of_some (BestCostsMore c.exact_costs-costs.result (HasPair pair.0 pair.1)) c.in_ok-more.more c.unwrap.result c.unwrap.ensures c.in_ok-more.ensures.exact in
    subst (λ (p : PricedPlan). BestCostsMore p (HasPair pair.0 pair.1) c.unwrap.result) c.exact_costs-costs.ensures.value best
