-- What is kept between searches: prices, and the order of each wagon.
use Rattle.std.specs.Prelude.{◌≡◌, ◌≢◌, ◌+◌, ◌<◌, ◌≤◌, ◌==◌, ◌↔◌, ℕ, Bool, false, if◌then◌else◌, List, map, length, Option, Some, None, slice_index, slice_index_or, slice_set}
use Rattle.std.specs.List.{count_by}
use Rattle.cost_table.specs.Table.{Table, cost_at, penalty_at, wagon_count, order_count}
use Rattle.cost_table.specs.TableLimits.{IsTable}
use Rattle.assignment.specs.declared.state.TheConstants.{NO_ORDER}
use Rattle.assignment.specs.declared.groups.TheConstants.{NO_WAGON}
use Rattle.assignment.specs.declared.passes.TheConstants.{FAR}
use Rattle.assignment.specs.declared.state.State.{State}
use Rattle.assignment.specs.declared.groups.Groups.{Groups}
use Rattle.assignment.specs.declared.search.End.{End}
use Rattle.assignment.specs.inner.Costs.{AreCosts, cell_cost}
use Rattle.assignment.specs.inner.Groups.{AreGroups, group_table, prices_of}

-- the order that a number stands for, if it stands for one
abbrev pub order_of_number : ℕ → Option ℕ
order_of_number n = if n == NO_ORDER then None else Some n

abbrev pub orders_of : List ℕ → List (Option ℕ)
orders_of numbers = map order_of_number numbers

-- the order that wagon i has, if it has one
abbrev pub order_at : List (Option ℕ) → ℕ → Option ℕ
order_at order_of i = slice_index_or order_of i None

abbrev pub has_order : ℕ → Option ℕ → Bool
has_order k None = false
has_order k (Some q) = q == k

-- how many wagons have order k
abbrev pub served : ℕ → List (Option ℕ) → ℕ
served k order_of = count_by (has_order k) order_of

-- a table, the group of each wagon and how many groups there are, a price u for each wagon and a price v for each order,
-- and the order of each wagon
pub record Kept : Type 0 where
  pub table : Table
  pub groups : List ℕ
  pub group_count : ℕ
  pub u : List ℕ
  pub v : List ℕ
  pub order_of : List (Option ℕ)

-- No order's price passes the cost of a cell and the wagon's price, nor the penalty.
pub record IsPriced (s : Kept) : Type 0 where
  pub wagons : length s.u ≡ wagon_count s.table
  pub orders : length s.v ≡ order_count s.table
  pub no_gap : (i j c : ℕ) → cost_at s.table i j ≡ Some c → slice_index s.v j ≤ c + slice_index s.u i
  pub below_penalty : (j : ℕ) → j < order_count s.table → slice_index s.v j ≤ penalty_at s.table j

-- a cell with the reduced cost 0
pub record IsTight (s : Kept) (i k : ℕ) : Type 0 where
  pub cost : ℕ
  pub allowed : cost_at s.table i k ≡ Some cost
  pub tight : slice_index s.v k ≡ cost + slice_index s.u i

-- a wagon without an order, whose cell of order k is tight
pub record IsAtHand (s : Kept) (k i : ℕ) : Type 0 where
  pub within : i < wagon_count s.table
  pub none : order_at s.order_of i ≡ None
  pub tight : IsTight s i k

-- The cell of each wagon and its order is tight. A wagon without an order has the price 0.
pub record AreHeld (s : Kept) : Type 0 where
  pub wagons : length s.order_of ≡ wagon_count s.table
  pub tight : (i k : ℕ) → order_at s.order_of i ≡ Some k → IsTight s i k
  pub idle : (i : ℕ) → order_at s.order_of i ≡ None → slice_index s.u i ≡ 0

-- what is kept between searches, but for the counts
pub record IsKept (s : Kept) : Type 0 where
  pub table : IsTable s.table
  pub priced : IsPriced s
  pub held : AreHeld s

abbrev pub kept : State → Kept
kept state = record {
  table = state.cells.now;
  groups = state.groups.of.items;
  group_count = length state.groups.first.items;
  u = prices_of state.groups.of.items state.u.items;
  v = state.v.items;
  order_of = orders_of state.order_of.items;
}

-- wagon i has no order, and it costs order j this much; NO_CELL where it may not serve it
pub record IsIdleAt (s : Kept) (j cost i : ℕ) : Type 0 where
  pub within : i < wagon_count s.table
  pub none : order_at s.order_of i ≡ None
  pub is : cell_cost (cost_at s.table i j) ≡ cost

-- the wagons of group g are some without an order, and each costs order j this much; NO_CELL where they may not serve it
pub record IsIdleGroup (state : State) (j cost g : ℕ) : Type 0 where
  pub within : g < length state.groups.first.items
  pub idle : slice_index state.idle.items g ≢ NO_WAGON
  pub is : cell_cost (cost_at (group_table state.cells.now state.groups.first.items) g j) ≡ cost

pub record HasIdleGroup (state : State) (j cost : ℕ) : Type 0 where
  pub group : ℕ
  pub is : IsIdleGroup state j cost group

-- no wagon without an order costs order j less, and one costs that, if it isn't FAR
pub record IsLeastCost (state : State) (j cost : ℕ) : Type 0 where
  pub below : (g : ℕ) → g < length state.groups.first.items → slice_index state.idle.items g ≢ NO_WAGON → cost ≤ cell_cost (cost_at (group_table state.cells.now state.groups.first.items) g j)
  pub attained : cost < FAR → HasIdleGroup state j cost

-- an order that is reached at a distance gets a wagon without an order at an end, or refuses a unit there
abbrev pub IsEndAt : Kept → (j distance end : ℕ) → Option ℕ → Type 0
IsEndAt s j distance end (Some i) = (i < wagon_count s.table) × (order_at s.order_of i ≡ None) × (end + slice_index s.v j ≡ distance + cell_cost (cost_at s.table i j) + slice_index s.u i)
IsEndAt s j distance end None = end + slice_index s.v j ≡ distance + penalty_at s.table j

-- No path that has reached order j at a distance ends nearer; where the end is nearer than `best`, a path ends there.
pub record IsEndFound (s : Kept) (j distance best : ℕ) (end : End) : Type 0 where
  pub beyond : distance ≤ end.distance
  pub refusal : end.distance + slice_index s.v j ≤ distance + penalty_at s.table j
  pub wagons : (i : ℕ) → i < wagon_count s.table → order_at s.order_of i ≡ None → end.distance + slice_index s.v j ≤ distance + cell_cost (cost_at s.table i j) + slice_index s.u i
  pub is : end.distance < best → IsEndAt s j distance end.distance end.wagon

-- a wagon, whose group is one of those that are kept
pub record HasGroupOf (state : State) (i : ℕ) : Type 0 where
  pub grouped : i < length state.groups.of.items
  pub chained : i < length state.groups.next.items
  pub group : slice_index state.groups.of.items i < length state.idle.items

-- Of each group the first wagon without an order is known. The wagons after it have none either.
pub record AreIdle (groups : List ℕ) (group_count : ℕ) (order_of : List (Option ℕ)) (idle : List ℕ) : Type 0 where
  pub count : length idle ≡ group_count
  pub first : (i : ℕ) → i < length groups → (order_at order_of i ≡ None) ↔ (slice_index idle (slice_index groups i) ≤ i)
  pub same : (g : ℕ) → g < group_count → slice_index idle g < length groups → slice_index groups (slice_index idle g) ≡ g
  pub within : (g : ℕ) → g < group_count → slice_index idle g ≢ NO_WAGON → slice_index idle g < length groups

-- a wagon is the first of its group that has no order
abbrev pub IsHead : State → Option ℕ → Type 0
IsHead state None = Unit {0}
IsHead state (Some i) = slice_index state.idle.items (slice_index state.groups.of.items i) ≡ i

-- the first wagons without an order once a wagon has got one
abbrev pub idle_after : Groups → List ℕ → Option ℕ → List ℕ
idle_after groups idle None = idle
idle_after groups idle (Some i) = slice_set idle (slice_index groups.of.items i) (slice_index groups.next.items i)

-- no wagon without an order costs an order less than its bound
pub record AreBounds (s : Kept) (bound : List ℕ) : Type 0 where
  pub count : length bound ≡ order_count s.table
  pub least : (i j : ℕ) → i < wagon_count s.table → j < order_count s.table → order_at s.order_of i ≡ None → slice_index bound j ≤ cell_cost (cost_at s.table i j)

-- each of so many orders has as many wagons as its number says
pub record AreServed (orders : ℕ) (order_of : List (Option ℕ)) (numbers : List ℕ) : Type 0 where
  pub count : length numbers ≡ orders
  pub each : (k : ℕ) → k < orders → slice_index numbers k ≡ served k order_of

pub record IsState (state : State) : Type 0 where
  pub keeps : IsKept (kept state)
  pub groups : AreGroups state.cells.now state.groups
  pub group_prices : length state.u.items ≡ length state.groups.first.items
  pub costs : AreCosts (group_table state.cells.now state.groups.first.items) state.costs.items
  pub idle : AreIdle state.groups.of.items (length state.groups.first.items) (orders_of state.order_of.items) state.idle.items
  pub bounds : AreBounds (kept state) state.bound.items
  pub hints : length state.nearest.items ≡ order_count state.cells.now
  pub served : AreServed (order_count state.cells.now) (orders_of state.order_of.items) state.served.items

-- Of the units taken in, those that no wagon serves are refused at the order's price.
pub record AreCounted (s : Kept) (taken : ℕ → ℕ) : Type 0 where
  pub within : (k : ℕ) → k < order_count s.table → served k s.order_of ≤ taken k
  pub refused : (k : ℕ) → k < order_count s.table → served k s.order_of < taken k → slice_index s.v k ≡ penalty_at s.table k

-- so many units more of order j
abbrev pub more : ℕ → ℕ → (ℕ → ℕ) → ℕ → ℕ
more j units taken k = if k == j then taken k + units else taken k
