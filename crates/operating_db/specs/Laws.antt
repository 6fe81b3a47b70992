-- What holds of every office that a roster and events lead to.
use Rattle.std.specs.Prelude.{◌≡◌, ◌≤◌, ℕ, List, ◌++◌, [], map, ◌∷◌, Ok}
use Rattle.move_messages.specs.Order.{Order}
use Rattle.wagons_and_orders.specs.declared.wagon_row.WagonRow.{WagonRow}
use Rattle.fleet_rows.specs.Roster.{IsRoster}
use Rattle.move_messages.specs.declared.event.Event.{Event}
use Rattle.operating_db.specs.Office.{Office}
use Rattle.operating_db.specs.RosterOffice.{first_office}
use Rattle.operating_db.specs.FirstOffice.{IsFirstOffice}
use Rattle.operating_db.specs.Promises.{PromisesAgree}
use Rattle.operating_db.specs.After.{after_call}
use Rattle.operating_db.specs.Steps.{IsPossible}

-- the numbers of the wagons; what the orders ask for
abbrev pub numbers_of : Office → List (List ℕ)
numbers_of office = map (λ row. row.number) office.wagons

abbrev pub texts_of : Office → List Order
texts_of office = map (λ row. row.text) office.orders

-- from an office to a new one by an event
abbrev pub Steps : (networks : ℕ) → Office → Event → Office → Type 0
Steps networks office event new = IsPossible networks office event × (after_call networks office event ≡ Ok new)

-- from an office to a new one by events, one after the other
abbrev pub Leads : (networks : ℕ) → Office → List Event → Office → Type 0
Leads networks office [] new = new ≡ office
Leads networks office (event ∷ events) new = (next : Office) × Steps networks office event next × Leads networks next events new

-- From an office to a later one: the promises agree; the wagons are the same, in the same order; the orders stay as
-- they were placed, and new ones stand behind them.
pub record IsKept (before after : Office) : Type 0 where
  pub promises : PromisesAgree after
  pub wagons : numbers_of after ≡ numbers_of before
  pub orders : (more : List Order) × (texts_of after ≡ texts_of before ++ more)

abbrev pub EventsKeepOffices : Type 0
EventsKeepOffices =
    (networks : ℕ) (office : Office) (events : List Event) (after : Office) → PromisesAgree office → Leads networks office events after → IsKept office after

-- a book may begin with the office of each roster, where there is a network
abbrev pub RostersBegin : Type 0
RostersBegin = (roster : List WagonRow) → IsRoster roster → (networks : ℕ) → 1 ≤ networks → IsFirstOffice networks (first_office roster)
