-- What is asked about: a problem over a network, its table, and a plan with its prices.
use Rattle.cost_table.specs.Problem.{ProblemValue}
use Rattle.line_network.specs.Network.{NetworkValue}
use Rattle.problem_table.specs.Allowed.{IsTableOf}
use Rattle.plan_bounds.specs.PricedPlan.{IsCertified, PricedPlan}

-- a problem, a network, and a plan with a price for each wagon and each order of the problem's table
pub record CertifiedPlanValue : Type 0 where
  pub network : NetworkValue
  pub problem : ProblemValue
  pub priced : PricedPlan

-- the table is the problem's over the network, and the prices show that no plan of it costs less
pub record IsCertifiedPlan (planned : CertifiedPlanValue) : Type 0 where
  pub table : IsTableOf planned.network planned.problem planned.priced.table
  pub certified : IsCertified planned.priced
