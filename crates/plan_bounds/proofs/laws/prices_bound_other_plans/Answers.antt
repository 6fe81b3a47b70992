use Rattle.plan_bounds.proofs.NewPairs.{more_wagons_cost_a_slack}
use Rattle.plan_bounds.proofs.OtherPlans.{idle_wagons_cost_their_price, misses_cost_their_slack, pairs_cost_their_slack}
use Rattle.plan_bounds.proofs.laws.prices_bound_other_plans.Goals as goal

pub returns : goal.returns
returns c = record {
  pairs = pairs_cost_their_slack;
  idle = idle_wagons_cost_their_price;
  misses = misses_cost_their_slack;
  more = more_wagons_cost_a_slack;
}
