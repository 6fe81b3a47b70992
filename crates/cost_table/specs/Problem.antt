-- A problem: what is to be distributed at a moment.
use Rattle.std.specs.Prelude.{ℕ, List, map}
use Rattle.wagons_and_orders.specs.declared.free_wagon.FreeWagon.{FreeWagon}
use Rattle.wagons_and_orders.specs.Wanted.{WantedOrder}
use Rattle.cost_table.specs.Names.{NameLists}

-- what is to be distributed at a moment: free wagons, and orders with what they lack
pub record ProblemValue : Type 0 where
  pub at : ℕ
  pub wagons : List FreeWagon
  pub orders : List WantedOrder

abbrev pub wagon_names : List FreeWagon → List (List ℕ)
wagon_names wagons = map (λ w. w.number) wagons

abbrev pub order_names : List WantedOrder → List (List ℕ)
order_names orders = map (λ o. o.order.id) orders

abbrev pub lacks_of : List WantedOrder → List ℕ
lacks_of orders = map (λ o. o.lack) orders

abbrev pub penalties_of : List WantedOrder → List ℕ
penalties_of orders = map (λ o. o.order.penalty) orders

abbrev pub names_of_problem : ProblemValue → NameLists
names_of_problem problem = record { wagons = wagon_names problem.wagons; orders = order_names problem.orders }
