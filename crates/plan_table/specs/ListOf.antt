-- The list of a plan: each wagon that goes, each order that misses wagons and why, and the sum.
use Rattle.std.specs.Prelude.{◌≡◌, ℕ, if◌then◌else◌, nat_le, nat_lt, List, length, Some, filter, slice_get}
use Rattle.std.specs.List.{AllZip, range_with_len}
use Rattle.wagons_and_orders.specs.Wanted.{WantedOrder}
use Rattle.line_network.specs.Network.{NetworkValue}
use Rattle.cost_table.specs.Plan.{serves}
use Rattle.cost_table.specs.Problem.{ProblemValue}
use Rattle.plan_bounds.specs.PricedPlan.{PricedPlan, certified_cost}
use Rattle.plan_bounds.specs.Slack.{missed}
use Rattle.plan_reasons.specs.declared.reasons.Counts.{Counts}
use Rattle.plan_reasons.specs.Reasons.{AreCounts}
use Rattle.plan_reasons.specs.Journeys.{IsJourney}
use Rattle.plan_table.specs.declared.plan_list.PlanList.{PlanList}
use Rattle.plan_table.specs.declared.plan_list.Reason.{Reason}
use Rattle.plan_table.specs.declared.plan_list.Reason.TheVariants.{Past, Class, Load, Way, InTime, Cheaper, Elsewhere}
use Rattle.plan_table.specs.declared.plan_list.Shortfall.{Shortfall}

-- the first test that no more wagons pass than the order gets
abbrev pub failed_test : (gets : ℕ) → Counts → Reason
failed_test gets passed =
    if nat_le passed.class gets then Class
    else if nat_le passed.load gets then Load
    else if nat_le passed.way gets then Way
    else if nat_le passed.in_time gets then InTime
    else if nat_le passed.cheaper gets then Cheaper
    else Elsewhere

-- that the order's latest moment is before the plan's; else that test
abbrev pub reason_of : (at latest gets : ℕ) → Counts → Reason
reason_of at latest gets passed = if nat_lt latest at then Past else failed_test gets passed

-- order j: how many wagons the plan gives it, how many it misses, and why
pub record IsShortfall (net : NetworkValue) (problem : ProblemValue) (p : PricedPlan) (j : ℕ) (shortfall : Shortfall) : Type 0 where
  pub wanted : WantedOrder
  pub order : slice_get problem.orders j ≡ Some wanted
  pub name : shortfall.order ≡ wanted.order.id
  pub place : shortfall.place ≡ wanted.order.place
  pub penalty : shortfall.penalty ≡ wanted.order.penalty
  pub gets : shortfall.gets ≡ serves j p.pairs
  pub missing : shortfall.missing ≡ missed p p.pairs j
  pub passed : Counts
  pub counted : AreCounts net problem.at problem.wagons wanted.order passed
  pub reason : shortfall.reason ≡ reason_of problem.at wanted.order.latest (serves j p.pairs) passed

-- the orders that miss wagons, as placed
abbrev pub short_orders : ProblemValue → PricedPlan → List ℕ
short_orders problem p = filter (λ j. nat_lt 0 (missed p p.pairs j)) (range_with_len 0 (length problem.orders))

pub record IsListOf (version : ℕ) (net : NetworkValue) (problem : ProblemValue) (p : PricedPlan) (plan : PlanList) : Type 0 where
  pub of_version : plan.version ≡ version
  pub moment : plan.at ≡ problem.at
  pub journeys : AllZip (IsJourney net problem) p.pairs plan.journeys.items
  pub shortfalls : AllZip (IsShortfall net problem p) (short_orders problem p) plan.shortfalls.items
  pub sum : plan.sum ≡ certified_cost p
