-- The costs of a table by order, in one flat list.
use Rattle.std.specs.Prelude.{◌≡◌, ◌+◌, ◌*◌, ◌<◌, ◌≤◌, ◌==◌, nat_lt, ℕ, if◌then◌else◌, List, length, take, Option, Some, None, slice_index}
use Rattle.cost_table.specs.Table.{Table, cost_at, penalty_at, wagon_count, order_count}
use Rattle.cost_table.specs.TableRows.{cost_in, row_at}
use Rattle.assignment.specs.declared.costs.Columns.{Columns}
use Rattle.assignment.specs.declared.costs.TheConstants.{NO_CELL}

-- the number that stands for a cell
abbrev pub cell_cost : Option ℕ → ℕ
cell_cost None = NO_CELL
cell_cost (Some c) = c

-- for each order one number of each wagon, which stands for the cell that `cell` has for the wagon and the order
pub record AreCostsOf (t : Table) (cell : ℕ → ℕ → Option ℕ) (costs : List ℕ) : Type 0 where
  pub count : length costs ≡ order_count t * wagon_count t
  pub each : (i j : ℕ) → i < wagon_count t → j < order_count t → slice_index costs (j * wagon_count t + i) ≡ cell_cost (cell i j)

-- the costs of a table by order
abbrev pub AreCosts : Table → List ℕ → Type 0
AreCosts t costs = AreCostsOf t (cost_at t) costs

-- for each order a price that passes neither its penalty nor a cost that `cell` has for it
pub record ArePricesOf (t : Table) (cell : ℕ → ℕ → Option ℕ) (v : List ℕ) : Type 0 where
  pub count : length v ≡ order_count t
  pub below_penalty : (j : ℕ) → j < order_count t → slice_index v j ≤ penalty_at t j
  pub below_cells : (i j c : ℕ) → i < wagon_count t → j < order_count t → cell i j ≡ Some c → slice_index v j ≤ c

-- the costs and first prices of the cells that `cell` has, and a hint for each order
pub record AreColumnsOf (t : Table) (cell : ℕ → ℕ → Option ℕ) (flat v nearest : List ℕ) : Type 0 where
  pub costs : AreCostsOf t cell flat
  pub prices : ArePricesOf t cell v
  pub hints : length nearest ≡ order_count t

-- the costs and first prices of a table, and a hint for each order
abbrev pub AreColumns : Table → Columns → Type 0
AreColumns t columns = AreColumnsOf t (cost_at t) columns.costs.items columns.v.items columns.nearest.items

-- each of the wagons n and n + 1 has a cost for every order
pub record AreFullRows (t : Table) (n : ℕ) : Type 0 where
  pub first : length (row_at t n) ≡ order_count t
  pub second : length (row_at t (n + 1)) ≡ order_count t

-- the cells of the first n wagons
abbrev pub cost_before : Table → ℕ → ℕ → ℕ → Option ℕ
cost_before t n i j = if nat_lt i n then cost_at t i j else None

-- the cells of the first n wagons, and the first m of the next one
abbrev pub cost_within : Table → ℕ → ℕ → ℕ → ℕ → Option ℕ
cost_within t n m i j = if i == n then cost_in (take m (row_at t n)) j else cost_before t n i j

-- the cells of the first n wagons, and for the first m orders those of two wagons more
abbrev pub cost_two : Table → ℕ → ℕ → ℕ → ℕ → Option ℕ
cost_two t n m i j = if nat_lt j m then cost_before t (n + 2) i j else cost_before t n i j

-- the costs of order j, one of each wagon
pub record IsColumn (t : Table) (j : ℕ) (column : List ℕ) : Type 0 where
  pub count : length column ≡ wagon_count t
  pub each : (i : ℕ) → i < wagon_count t → slice_index column i ≡ cell_cost (cost_at t i j)
