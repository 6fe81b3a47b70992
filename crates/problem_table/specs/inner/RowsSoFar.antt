-- The row of a wagon while it grows, goal by goal.
use Rattle.std.specs.Prelude.{◌≡◌, ℕ, List, ◌++◌, length}
use Rattle.wagons_and_orders.specs.declared.free_wagon.FreeWagon.{FreeWagon}
use Rattle.wagons_and_orders.specs.Wanted.{WantedOrder}
use Rattle.line_network.specs.Network.{NetworkValue}
use Rattle.problem_table.specs.Allowed.{Reaches}
use Rattle.problem_table.specs.declared.goals.Goal.{Goal}
use Rattle.problem_table.specs.inner.AllowedRows.{AddsRow}
use Rattle.problem_table.specs.inner.Goals.{goals_from}

-- The row so far has the orders before; the goals that are left are those of the later ones.
pub record RowSoFar (net : NetworkValue) (at : ℕ) (wagon : FreeWagon) (orders : List WantedOrder) (left : List Goal) (old now : List (ℕ × ℕ)) : Type 0 where
  pub before : List WantedOrder
  pub later : List WantedOrder
  pub all : before ++ later ≡ orders
  pub left_is : left ≡ goals_from net wagon.class (length before) later
  pub row : AddsRow (λ wanted. Reaches net at wagon wanted.order) before old now
