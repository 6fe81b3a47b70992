-- The exact costs of one order's pairs, as contracts see them.
use Rattle.std.specs.Prelude.{ℕ}
use Rattle.plan_bounds.specs.PricedPlan.{PricedPlan}

-- the certified plan, the order, and the plan and prices of the table in which the order lacks one wagon less
pub record OrderCostsValue : Type 0 where
  pub priced : PricedPlan
  pub order : ℕ
  pub less : PricedPlan
