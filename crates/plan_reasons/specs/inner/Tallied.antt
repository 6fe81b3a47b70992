-- What is counted once for all orders of a text.
use Rattle.std.specs.Prelude.{◌≡◌, ◌+◌, ◌==◌, ◌&&◌, ◌<◌, ℕ, Bool, false, map, nat_lt, nat_le, List, None, Some, length, slice_get, slice_index, slice_index_or}
use Rattle.std.specs.List.{AllZip, count_by, sum_by}
use Rattle.move_messages.specs.Order.{Order}
use Rattle.wagons_and_orders.specs.declared.free_wagon.FreeWagon.{FreeWagon}
use Rattle.wagons_and_orders.specs.Listed.{is_listed}
use Rattle.wagons_and_orders.specs.Wanted.{WantedOrder}
use Rattle.line_network.specs.Network.{NetworkValue, place_index}
use Rattle.cost_table.specs.Plan.{serves}
use Rattle.cost_table.specs.Table.{Table, order_count, penalty_at}
use Rattle.plan_reasons.specs.declared.reasons.Counts.{Counts}
use Rattle.plan_reasons.specs.CertifiedPlan.{CertifiedPlanValue}
use Rattle.plan_reasons.specs.declared.tallies.Tallies.{Tallies}
use Rattle.plan_reasons.specs.declared.tested_wagons.TestedWagon.{TestedWagon}
use Rattle.plan_reasons.specs.Reasons.{AreCounts}
use Rattle.plan_reasons.specs.PairLists.{is_below}
use Rattle.plan_reasons.specs.Laws.{cells_of_order}

-- ---- numbers of orders

-- the number of each order below n
abbrev pub AreNumbers : (n : ℕ) → (number : ℕ → ℕ) → List ℕ → Type 0
AreNumbers n number xs = (length xs ≡ n) × ((j : ℕ) → j < n → slice_index xs j ≡ number j)

-- each is more by a number of its own
abbrev pub AreMore : (more : ℕ → ℕ) → (old new : List ℕ) → Type 0
AreMore more old new = AreNumbers (length old) (λ j. slice_index old j + more j) new

-- whether a cell is of order j and costs less than its limit
abbrev pub is_cell_below : (limits : List ℕ) → (j : ℕ) → ℕ × ℕ → Bool
is_cell_below limits j cell = cell.0 == j && nat_lt cell.1 (slice_index limits j)

abbrev pub below_in_row : (row : List (ℕ × ℕ)) → (limits : List ℕ) → (j : ℕ) → ℕ
below_in_row row limits j = count_by (is_cell_below limits j) row

abbrev pub cells_below : (rows : List (List (ℕ × ℕ))) → (limits : List ℕ) → (j : ℕ) → ℕ
cells_below rows limits j = sum_by (λ row. below_in_row row limits j) rows

-- how many wagons of a table may serve order j at less than its penalty
abbrev pub cheaper_cells : Table → (j : ℕ) → ℕ
cheaper_cells t j = count_by (λ costs. is_below (slice_index_or costs j None) (penalty_at t j)) t.costs

-- ---- wagons

-- the wagon as the tests see it: its class by its position among the classes, and its place by its number
pub record IsTested (net : NetworkValue) (classes : List (List ℕ)) (wagon : FreeWagon) (tested : TestedWagon) : Type 0 where
  pub class : slice_get classes tested.class ≡ Some wagon.class
  pub load : tested.load_limit ≡ wagon.load_limit
  pub place : tested.place ≡ place_index net.places wagon.place

abbrev pub AreTested : NetworkValue → List FreeWagon → (classes : List (List ℕ)) → List TestedWagon → Type 0
AreTested net wagons classes tested = AllZip (IsTested net classes) wagons tested

-- each class stands where it stood
abbrev pub KeepsClasses : (old new : List (List ℕ)) → Type 0
KeepsClasses old new = (k : ℕ) (class : List ℕ) → slice_get old k ≡ Some class → slice_get new k ≡ Some class

-- whether the wagon's class is marked as listed
abbrev pub is_of_class : (listed : List Bool) → TestedWagon → Bool
is_of_class listed tested = slice_index_or listed tested.class false

-- and its load limit is no less than a load
abbrev pub has_load : (listed : List Bool) → (load : ℕ) → TestedWagon → Bool
has_load listed load tested = is_of_class listed tested && nat_le load tested.load_limit

-- the marks are of the classes by which the wagons stand
pub record AreSeen (net : NetworkValue) (wagons : List FreeWagon) (order : Order) (listed : List Bool) (tested : List TestedWagon) : Type 0 where
  pub classes : List (List ℕ)
  pub seen : AreTested net wagons classes tested
  pub marks : listed ≡ map (is_listed order.classes) classes

-- ---- all of it

pub record AreTallies (planned : CertifiedPlanValue) (tallies : Tallies) : Type 0 where
  pub tested : AreTested planned.network planned.problem.wagons tallies.tested.classes.items tallies.tested.wagons.items
  pub in_time : AreNumbers (order_count planned.priced.table) (cells_of_order planned.priced.table) tallies.in_time.items
  pub cheaper : AreNumbers (order_count planned.priced.table) (cheaper_cells planned.priced.table) tallies.cheaper.items
  pub given : AreNumbers (order_count planned.priced.table) (λ j. serves j planned.priced.pairs) tallies.given.items

-- the counts of order j
abbrev pub AreCountsOf : CertifiedPlanValue → (j : ℕ) → Counts → Type 0
AreCountsOf planned j counts =
    (wanted : WantedOrder) → slice_get planned.problem.orders j ≡ Some wanted
    → AreCounts planned.network planned.problem.at planned.problem.wagons wanted.order counts
