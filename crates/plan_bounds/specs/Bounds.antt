-- Bounds: what plans that differ from the certified one in some way cost more, at least.
use Rattle.std.specs.Prelude.{◌≡◌, ◌+◌, ◌*◌, ◌<◌, ◌≤◌, ℕ, List, Contains}
use Rattle.cost_table.specs.Table.{Table}
use Rattle.cost_table.specs.Plan.{IsAllowed, IsPlan, cost_of, serves, uses}
use Rattle.plan_bounds.specs.PricedPlan.{PricedPlan, certified_cost}
use Rattle.plan_bounds.specs.Slack.{missed}

-- each plan of the table that is so costs so many km more than the certified one, at least
abbrev pub CostsMore : PricedPlan → (IsSo : List (ℕ × ℕ) → Type 0) → (km : ℕ) → Type 0
CostsMore p IsSo km = (other : List (ℕ × ℕ)) → IsPlan p.table other → IsSo other → certified_cost p + km ≤ cost_of p.table other

-- a plan that has a pair
abbrev pub HasPair : (i j : ℕ) → List (ℕ × ℕ) → Type 0
HasPair i j other = Contains other (i, j)

-- a plan in which wagon i goes to no order
abbrev pub IsIdle : (i : ℕ) → List (ℕ × ℕ) → Type 0
IsIdle i other = uses i other ≡ 0

-- a plan in which order j misses k wagons or more
abbrev pub MissesAtLeast : PricedPlan → (j k : ℕ) → List (ℕ × ℕ) → Type 0
MissesAtLeast p j k other = k ≤ missed p other j

-- each wagon that order j misses costs so many km more, at least
abbrev pub EachMissCosts : PricedPlan → (j km : ℕ) → Type 0
EachMissCosts p j km = (k : ℕ) → CostsMore p (MissesAtLeast p j k) (k * km)

-- a plan that gives order j more wagons than the certified one does
abbrev pub ServesMore : PricedPlan → (j : ℕ) → List (ℕ × ℕ) → Type 0
ServesMore p j other = serves j p.pairs < serves j other

-- an allowed pair that the certified plan doesn't have
pub record IsNewPair (p : PricedPlan) (i j : ℕ) : Type 0 where
  pub allowed : IsAllowed p.table (i, j)
  pub new : ¬ HasPair i j p.pairs

-- no plan gives order j more wagons than the certified one does
abbrev pub NoneServesMore : PricedPlan → (j : ℕ) → Type 0
NoneServesMore p j = (other : List (ℕ × ℕ)) → IsPlan p.table other → serves j other ≤ serves j p.pairs

-- each plan of another table costs so many km more than the certified one, at least
abbrev pub AllCostMore : PricedPlan → Table → (km : ℕ) → Type 0
AllCostMore p table km = (other : List (ℕ × ℕ)) → IsPlan table other → certified_cost p + km ≤ cost_of table other

-- no plan of another table costs over so many km less than the certified one
abbrev pub NoneSavesMore : PricedPlan → Table → (km : ℕ) → Type 0
NoneSavesMore p table km = (other : List (ℕ × ℕ)) → IsPlan table other → certified_cost p ≤ cost_of table other + km
