-- Least costs: of the plans of a table that are so, and of all plans of a changed table.
use Rattle.std.specs.Prelude.{◌≡◌, ◌+◌, ◌≤◌, ◌&&◌, ℕ, Bool, List, nat_lt, sum}
use Rattle.move_messages.specs.OrderLimits.{max_order_wagons}
use Rattle.cost_table.specs.Table.{Table, lack_at}
use Rattle.cost_table.specs.TableLimits.{max_table_lack}
use Rattle.cost_table.specs.Plan.{IsPlan, cost_of}
use Rattle.plan_bounds.specs.PricedPlan.{PricedPlan, certified_cost}

-- some plan of the table that is so costs n, and none that is so costs less
pub record IsLeastOver (t : Table) (IsSo : List (ℕ × ℕ) → Type 0) (n : ℕ) : Type 0 where
  pub plan : List (ℕ × ℕ)
  pub of_table : IsPlan t plan
  pub is_so : IsSo plan
  pub costs : cost_of t plan ≡ n
  pub least : (other : List (ℕ × ℕ)) → IsPlan t other → IsSo other → n ≤ cost_of t other

-- a plan of any kind
abbrev pub IsAny : List (ℕ × ℕ) → Type 0
IsAny plan = Unit {0}

-- the best plan of the table that is so costs so many km more than the certified one
abbrev pub BestCostsMore : PricedPlan → (IsSo : List (ℕ × ℕ) → Type 0) → (km : ℕ) → Type 0
BestCostsMore p IsSo km = IsLeastOver p.table IsSo (certified_cost p + km)

-- the best plan of another table costs so many km more than the certified one
abbrev pub BestOfCostsMore : PricedPlan → Table → (km : ℕ) → Type 0
BestOfCostsMore p table km = IsLeastOver table IsAny (certified_cost p + km)

-- the best plan of another table costs so many km less than the certified one
pub record BestOfCostsLess (p : PricedPlan) (table : Table) (km : ℕ) : Type 0 where
  pub cost : ℕ
  pub best : IsLeastOver table IsAny cost
  pub less : cost + km ≡ certified_cost p

-- whether a table whose order j lacks one wagon more is within the limits of a table
abbrev pub may_lack_more : Table → (j : ℕ) → Bool
may_lack_more t j = nat_lt (lack_at t j) max_order_wagons && nat_lt (sum t.lacks) max_table_lack
