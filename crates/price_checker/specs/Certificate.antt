-- Certificates: a plan and prices which show that no plan costs less.
use Rattle.std.specs.Prelude.{◌≡◌, ◌+◌, ◌*◌, ◌<◌, ◌≤◌, ℕ, List, length, Some, sum, slice_index}
use Rattle.cost_table.specs.Table.{Table, cost_at, penalty_at, lack_at, wagon_count, order_count}
use Rattle.cost_table.specs.Plan.{IsPlan, cost_of, sum_below}

-- A plan, a price u in km for each wagon and a price v in km for each order, which show that no plan costs less.
pub record IsCertificate (t : Table) (pairs : List (ℕ × ℕ)) (u v : List ℕ) : Type 0 where
  pub wagons : length u ≡ wagon_count t
  pub orders : length v ≡ order_count t
  pub plan : IsPlan t pairs
  pub no_gap : (i j c : ℕ) → i < wagon_count t → j < order_count t → cost_at t i j ≡ Some c → slice_index v j ≤ c + slice_index u i
  pub below_penalty : (j : ℕ) → j < order_count t → slice_index v j ≤ penalty_at t j
  pub balance : cost_of t pairs + sum u ≡ sum_below (order_count t) (λ j. lack_at t j * slice_index v j)
