-- What it costs to give an order more wagons than the certified plan does.
use Rattle.std.specs.Prelude.{◌≡◌, ◌-◌, ℕ, List}
use Rattle.cost_table.specs.Plan.{IsPlan}
use Rattle.cost_table.specs.Table.{penalty_at}
use Rattle.cost_table.specs.TableLimits.{max_cost}
use Rattle.plan_bounds.specs.PricedPlan.{PricedPlan}
use Rattle.plan_bounds.specs.Bounds.{CostsMore, NoneServesMore, ServesMore}
use Rattle.exact_costs.specs.LeastCosts.{BestCostsMore}
use Rattle.exact_costs.specs.declared.further.Further.{Further}
use Rattle.exact_costs.specs.declared.further.Further.TheVariants.{Exactly, Over, Never}

-- Each plan that gives order j more wagons costs so many km more, at least: the most that a missed wagon may cost, less what one
-- of this order costs. There is such a plan.
pub record IsOver (p : PricedPlan) (j km : ℕ) : Type 0 where
  pub km_is : km ≡ max_cost - penalty_at p.table j
  pub each : CostsMore p (ServesMore p j) km
  pub plan : List (ℕ × ℕ)
  pub of_table : IsPlan p.table plan
  pub gives_more : ServesMore p j plan

-- the best plan that gives order j more wagons costs so much more, or each does so much more, at least, or there is none
abbrev pub IsFurther : PricedPlan → (j : ℕ) → Further → Type 0
IsFurther p j (Exactly km) = BestCostsMore p (ServesMore p j) km
IsFurther p j (Over km) = IsOver p j km
IsFurther p j Never = NoneServesMore p j
