-- What each event makes of an office, or its first refusal.
use Rattle.std.specs.Prelude.{◌+◌, ◌==◌, nat_lt, ℕ, if◌then◌else◌, ◌||◌, List, [], ◌∷◌, ◌++◌, map, Option, Some, None, is_some, option_map, Result, Ok, Err}
use Rattle.move_messages.specs.Order.{Order}
use Rattle.move_messages.specs.declared.message.Message as message
use Rattle.wagons_and_orders.specs.declared.change.Effect.{Effect}
use Rattle.wagons_and_orders.specs.declared.change.Effect.TheVariants as effect
use Rattle.wagons_and_orders.specs.declared.change.Change.{Change}
use Rattle.faults.specs.declared.faults.StepFault.{StepFault}
use Rattle.wagons_and_orders.specs.declared.wagon_row.WagonRow.{WagonRow}
use Rattle.wagons_and_orders.specs.StatusTable.{step_of}
use Rattle.wagons_and_orders.specs.Lack.{is_open}
use Rattle.wagons_and_orders.specs.OrderRow.{OrderRowValue, placed_row}
use Rattle.fleet_rows.specs.Rows.{wagon_in, order_in, at_wagon, at_order, max_open_wagons, open_wagons, filled_by, freed_of, taken_back}
use Rattle.faults.specs.declared.faults.ApplyFault.{ApplyFault}
use Rattle.faults.specs.declared.faults.ApplyFault.TheVariants.{UnknownWagon, Step, OrderKnown, TooManyOpen, UnknownOrder, OrderClosed, UnknownNetwork, SameNetwork}
use Rattle.move_messages.specs.declared.event.Event.{Event}
use Rattle.move_messages.specs.declared.event.Event.TheVariants.{Message, Place, Withdraw, Commit, Revise}
use Rattle.operating_db.specs.Commits.{promise_all}
use Rattle.operating_db.specs.Office.{Office}
use Rattle.operating_db.specs.Promises.{is_promise_to}

-- A message: the row of its wagon as the status table says. A promise that ends does so on the order too, which may then be
-- filled by the wagon.

-- the orders after what became of the promise of a wagon
abbrev pub orders_after : Effect → (promise : Option (List ℕ)) → (number : List ℕ) → List OrderRowValue → List OrderRowValue
orders_after effect.None promise number orders = orders
orders_after effect.Fills None number orders = orders
orders_after effect.Fills (Some id) number orders = at_order id (filled_by number) orders
orders_after effect.Ends None number orders = orders
orders_after effect.Ends (Some id) number orders = at_order id (freed_of number) orders

-- where the order of a promise wants its wagons
abbrev pub order_place : List OrderRowValue → (promise : Option (List ℕ)) → Option (List ℕ)
order_place orders None = None
order_place orders (Some id) = option_map (λ row. row.text.place) (order_in orders id)

abbrev pub moved : Office → (number : List ℕ) → (promise : Option (List ℕ)) → Result Change StepFault → Result Office ApplyFault
moved office number promise (Err fault) = Err (Step fault)
moved office number promise (Ok change) = Ok (record office {
  wagons = at_wagon number (λ _. change.row) office.wagons;
  orders = orders_after change.effect promise number office.orders;
})

abbrev pub message_to : Office → message.Message → Option WagonRow → Result Office ApplyFault
message_to office message None = Err UnknownWagon
message_to office message (Some row) = moved office message.wagon row.promise (step_of row message (order_place office.orders row.promise))

abbrev pub after_message : Office → message.Message → Result Office ApplyFault
after_message office message = message_to office message (wagon_in office.wagons message.wagon)

-- An order: its name is new, and the open orders want at most 500 wagons in all.
abbrev pub after_order : Office → Order → Result Office ApplyFault
after_order office text =
    if is_some (order_in office.orders text.id) then Err OrderKnown
    else if nat_lt max_open_wagons (open_wagons office.orders + text.wagons) then Err TooManyOpen
    else Ok (record office { orders = office.orders ++ placed_row text ∷ [] })

-- A withdrawal ends each promise to the order, on the wagons too. The wagons that filled it stay.
abbrev pub unpromised : List ℕ → WagonRow → WagonRow
unpromised id row = if is_promise_to row.promise id then record row { promise = None } else row

abbrev pub withdrawn_from : Office → (id : List ℕ) → Option OrderRowValue → Result Office ApplyFault
withdrawn_from office id None = Err UnknownOrder
withdrawn_from office id (Some row) =
    if is_open row then Ok (record office { wagons = map (unpromised id) office.wagons; orders = at_order id taken_back office.orders })
    else Err OrderClosed

-- A revision puts one of the networks, counted from 1, in force in place of another.
abbrev pub after_revision : (networks : ℕ) → Office → ℕ → Result Office ApplyFault
after_revision networks office network =
    if network == 0 || nat_lt networks network then Err UnknownNetwork
    else if network == office.network then Err SameNetwork
    else Ok (record office { network = network })

-- What an event makes of an office where there are so many networks, or its first refusal. A commit has none: whether it is
-- possible is said by `IsPossible`.
unfoldable pub after_call : (networks : ℕ) → Office → Event → Result Office ApplyFault
after_call networks office (Message message) = after_message office message
after_call networks office (Place text) = after_order office text
after_call networks office (Withdraw id) = withdrawn_from office id (order_in office.orders id)
after_call networks office (Commit commit) = Ok (promise_all office commit.pairs)
after_call networks office (Revise network) = after_revision networks office network
