-- Costs that a certificate proves least.
use Rattle.std.specs.Prelude.{◌≡◌, ◌≤◌, ℕ, List}
use Rattle.cost_table.specs.Table.{Table}
use Rattle.cost_table.specs.Plan.{IsPlan, cost_of, serves}
use Rattle.price_checker.specs.Certificate.{IsCertificate}

-- a plan of the table that has a certificate costs n
pub record IsCertifiedCost (t : Table) (n : ℕ) : Type 0 where
  pub pairs : List (ℕ × ℕ)
  pub u : List ℕ
  pub v : List ℕ
  pub certificate : IsCertificate t pairs u v
  pub cost : cost_of t pairs ≡ n

-- the most that a plan with a certificate costs: a thousand million km for each wagon that all orders lack
abbrev pub max_plan_cost : ℕ
max_plan_cost = 500_000_000_000

-- each plan of the table costs n, at least
abbrev pub IsNoMore : Table → (n : ℕ) → Type 0
IsNoMore t n = (other : List (ℕ × ℕ)) → IsPlan t other → n ≤ cost_of t other

-- a plan of the table that has a certificate costs n, and gives order j so many wagons
pub record IsCertifiedGiving (t : Table) (j n given : ℕ) : Type 0 where
  pub pairs : List (ℕ × ℕ)
  pub u : List ℕ
  pub v : List ℕ
  pub certificate : IsCertificate t pairs u v
  pub cost : cost_of t pairs ≡ n
  pub gives : serves j pairs ≡ given
