-- What plans with a pair cost more.
use Rattle.std.proofs.Common.{◌≡◌, ◌≤◌, ℕ, Option, Some, None, arith}
use Rattle.std.specs.Prelude.{option_map, unwrap_or}
use Rattle.cost_table.specs.Table.{cost_at}
use Rattle.plan_bounds.specs.PricedPlan.{IsCertified, PricedPlan}
use Rattle.plan_bounds.specs.Slack.{in_64_bits, slack}
use Rattle.plan_bounds.specs.Bounds.{CostsMore, HasPair}
use Rattle.plan_bounds.proofs.OtherPlans.{lower_bound, pairs_cost_their_slack}
use Rattle.plan_reasons.specs.Numbers.{more_of}
use Rattle.plan_reasons.specs.Laws.{NumbersOfPairsBound}

no_more : (cost : Option ℕ) (n : ℕ) → unwrap_or (option_map (λ (km : ℕ). in_64_bits n) cost) 0 ≤ n
no_more None n = omega arith
no_more (Some km) n = omega arith

module _ (p : PricedPlan) (certified : IsCertified p) (i j : ℕ) where
  pub costs_more : CostsMore p (HasPair i j) (more_of p (i, j))
  costs_more = lower_bound p (HasPair i j) (more_of p (i, j)) (slack p (i, j)) (no_more (cost_at p.table i j) (slack p (i, j))) (pairs_cost_their_slack p certified i j)

  pub own_costs_none : HasPair i j p.pairs → more_of p (i, j) ≡ 0
  own_costs_none has = omega (arith, costs_more p.pairs certified.plan has)

pub numbers_of_pairs_bound : NumbersOfPairsBound
numbers_of_pairs_bound p certified i j = record { more = costs_more p certified i j; own = own_costs_none p certified i j }
