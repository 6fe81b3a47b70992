-- Plans with prices that are a certificate of their table.
use Rattle.std.specs.Prelude.{ℕ, List}
use Rattle.cost_table.specs.Table.{Table}
use Rattle.cost_table.specs.Plan.{cost_of}
use Rattle.price_checker.specs.Certificate.{IsCertificate}

-- a plan of a table, with a price u for each of its wagons and a price v for each of its orders
pub record PricedPlan : Type 0 where
  pub table : Table
  pub pairs : List (ℕ × ℕ)
  pub u : List ℕ
  pub v : List ℕ

-- the prices show that no plan of the table costs less
abbrev pub IsCertified : PricedPlan → Type 0
IsCertified p = IsCertificate p.table p.pairs p.u p.v

-- what the plan costs, in km
abbrev pub certified_cost : PricedPlan → ℕ
certified_cost p = cost_of p.table p.pairs
