-- What is asked for: which events name it, and what an office knows of it.
use Rattle.std.specs.Prelude.{ℕ, Bool, false, nat_eq, List, Option, None}
use Rattle.std.specs.Cmp.Lexicographic.{pointwise}
use Rattle.std.specs.List.{list_any}
use Rattle.fleet_rows.specs.Rows.{order_in, wagon_in}
use Rattle.move_messages.specs.declared.event.Event.{Event}
use Rattle.move_messages.specs.declared.event.Event.TheVariants as event
use Rattle.operating_db.specs.Commits.{Pair}
use Rattle.operating_db.specs.Office.{Office}
use Rattle.wagons_and_orders.specs.OrderRow.{OrderRowValue}
use Rattle.wagons_and_orders.specs.declared.wagon_row.WagonRow.{WagonRow}
use Rattle.traces.specs.declared.asked.Asked.{Asked}
use Rattle.traces.specs.declared.asked.Asked.TheVariants.{Wagon, Order}
use Rattle.traces.specs.declared.asked_row.AskedRow.{AskedRow}

-- ---- names

-- whether a wagon, or an order, stands in one of these pairs
abbrev pub is_wagon_in : (number : List ℕ) → List Pair → Bool
is_wagon_in number pairs = list_any (λ pair. pointwise nat_eq number pair.0) pairs

abbrev pub is_order_in : (id : List ℕ) → List Pair → Bool
is_order_in id pairs = list_any (λ pair. pointwise nat_eq id pair.1) pairs

-- a message names its wagon; a commit names each wagon of its pairs
abbrev pub names_wagon : (number : List ℕ) → Event → Bool
names_wagon number (event.Message message) = pointwise nat_eq number message.wagon
names_wagon number (event.Place text) = false
names_wagon number (event.Withdraw id) = false
names_wagon number (event.Commit commit) = is_wagon_in number commit.pairs
names_wagon number (event.Revise network) = false

-- an order and a withdrawal name their order; a commit names each order of its pairs
abbrev pub names_order : (id : List ℕ) → Event → Bool
names_order id (event.Message message) = false
names_order id (event.Place text) = pointwise nat_eq id text.id
names_order id (event.Withdraw withdrawn) = pointwise nat_eq id withdrawn
names_order id (event.Commit commit) = is_order_in id commit.pairs
names_order id (event.Revise network) = false

-- whether an event names what is asked for
abbrev pub names : Asked → Event → Bool
names (Wagon number) event = names_wagon number event
names (Order id) event = names_order id event

-- ---- rows

abbrev pub wagon_of : Asked → Office → Option WagonRow
wagon_of (Wagon number) office = wagon_in office.wagons number
wagon_of (Order id) office = None

abbrev pub order_of : Asked → Office → Option OrderRowValue
order_of (Wagon number) office = None
order_of (Order id) office = order_in office.orders id

-- what an office knows of what is asked for
abbrev pub row_in : Asked → Office → AskedRow
row_in asked office = record { wagon = wagon_of asked office; order = order_of asked office }
