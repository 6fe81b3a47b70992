-- What each problem keeps, and why there is none.
use Rattle.std.specs.Prelude.{◌≡◌, ◌≤◌, ℕ, if◌then◌else◌, nat_lt, ◌||◌, Bool, List, length, sum, None, Result, Err}
use Rattle.wagons_and_orders.specs.declared.free_wagon.FreeWagon.{FreeWagon}
use Rattle.wagons_and_orders.specs.Wanted.{WantedOrder}
use Rattle.cost_table.specs.TableLimits.{max_table_wagons, max_table_orders, max_table_lack}
use Rattle.faults.specs.declared.faults.TableFault.{TableFault}
use Rattle.faults.specs.declared.faults.TableFault.TheVariants.{TooLarge}
use Rattle.cost_table.specs.DistinctNames.{first_repeated, unrepeated}
use Rattle.cost_table.specs.Problem.{ProblemValue, wagon_names, order_names, lacks_of}

abbrev pub is_too_much : List WantedOrder → Bool
is_too_much orders = nat_lt max_table_orders (length orders) || nat_lt max_table_lack (sum (lacks_of orders))

-- a problem of these, or what is wrong with them
abbrev pub problem_or_fault : ℕ → List FreeWagon → List WantedOrder → Result ProblemValue TableFault
problem_or_fault at wagons orders =
    if nat_lt max_table_wagons (length wagons) || is_too_much orders then Err TooLarge
    else unrepeated (record { at = at; wagons = wagons; orders = orders }) (first_repeated (wagon_names wagons)) (first_repeated (order_names orders))

-- what every problem keeps
pub record IsProblem (problem : ProblemValue) : Type 0 where
  pub few_wagons : length problem.wagons ≤ max_table_wagons
  pub few_orders : length problem.orders ≤ max_table_orders
  pub lack_in_all : sum (lacks_of problem.orders) ≤ max_table_lack
  pub each_wagon_once : first_repeated (wagon_names problem.wagons) ≡ None
  pub each_order_once : first_repeated (order_names problem.orders) ≡ None
