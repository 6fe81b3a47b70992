-- The limits of a table.
use Rattle.std.specs.Prelude.{ℕ, ◌≡◌, ◌≤◌, ◌<◌, ◌+◌, List, [], ◌∷◌, length, Option, None, Some, All, sum}
use Rattle.wagons_and_orders.specs.WantedLimits.{IsLack}
use Rattle.cost_table.specs.Table.{Table, wagon_count, order_count}

-- the most wagons
abbrev pub max_table_wagons : ℕ
max_table_wagons = 1_000

-- the most orders
abbrev pub max_table_orders : ℕ
max_table_orders = 500

-- the most wagons that all orders lack together
abbrev pub max_table_lack : ℕ
max_table_lack = 500

-- the most that a cell or a missed wagon costs, in km
abbrev pub max_cost : ℕ
max_cost = 1_000_000_000

-- a cost within its limit, or none
abbrev pub IsNumber : Option ℕ → Type 0
IsNumber None = Unit {0}
IsNumber (Some cost) = cost ≤ max_cost

-- a row from order `low` on: ascending by order, each order one of the table's, each cost within its limit
abbrev pub IsRow : ℕ → ℕ → List (ℕ × ℕ) → Type 0
IsRow orders low [] = Unit {0}
IsRow orders low (cell ∷ row) =
    (low ≤ cell.0) × (cell.0 < orders) × (cell.1 ≤ max_cost) × IsRow orders (cell.0 + 1) row

-- what each table of the program keeps
pub record IsTable (t : Table) : Type 0 where
  pub wagons : wagon_count t ≤ max_table_wagons
  pub orders : order_count t ≤ max_table_orders
  pub penalty_count : length t.penalties ≡ order_count t
  pub even : All (λ costs. length costs ≡ order_count t) t.costs
  pub costs : All (All IsNumber) t.costs
  pub penalties : All (λ penalty. penalty ≤ max_cost) t.penalties
  pub lacks : All IsLack t.lacks
  pub lack_in_all : sum t.lacks ≤ max_table_lack
