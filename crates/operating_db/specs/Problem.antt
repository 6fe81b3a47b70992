-- The problem of an office at a moment: what is to be distributed.
use Rattle.std.specs.Prelude.{ℕ, if◌then◌else◌, List, Option, Some, None}
use Rattle.std.specs.List.{filter_map}
use Rattle.wagons_and_orders.specs.declared.wagon_row.WagonRow.{WagonRow}
use Rattle.wagons_and_orders.specs.declared.free_wagon.FreeWagon.{FreeWagon}
use Rattle.wagons_and_orders.specs.Free.{free_of}
use Rattle.wagons_and_orders.specs.Lack.{is_waiting, lack_of}
use Rattle.wagons_and_orders.specs.OrderRow.{OrderRowValue}
use Rattle.wagons_and_orders.specs.Wanted.{WantedOrder}
use Rattle.cost_table.specs.Problem.{ProblemValue}
use Rattle.operating_db.specs.Office.{Office}

-- every free wagon, in order
abbrev pub free_wagons : List WagonRow → List FreeWagon
free_wagons rows = filter_map free_of rows

-- an order that waits, with how many wagons it lacks
abbrev pub wanted_in : OrderRowValue → Option WantedOrder
wanted_in row = if is_waiting row then Some (record { order = row.text; lack = lack_of row }) else None

-- every waiting order, as placed
abbrev pub waiting_orders : List OrderRowValue → List WantedOrder
waiting_orders rows = filter_map wanted_in rows

abbrev pub problem_of : Office → ℕ → ProblemValue
problem_of office at = record { at = at; wagons = free_wagons office.wagons; orders = waiting_orders office.orders }
