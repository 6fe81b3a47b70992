-- What a message changes in an office, before it happens.
use Rattle.std.specs.Prelude.{◌≡◌, ◌≤◌, ℕ, List, Option, Some, Ok, slice_get}
use Rattle.move_messages.specs.MaxLoad.{max_load}
use Rattle.move_messages.specs.declared.message.Message as message
use Rattle.wagons_and_orders.specs.StatusTable.{step_of}
use Rattle.wagons_and_orders.specs.declared.change.Change.{Change}
use Rattle.wagons_and_orders.specs.declared.wagon_row.WagonRow.{WagonRow}
use Rattle.fleet_rows.specs.Rows.{wagon_in}
use Rattle.operating_db.specs.After.{order_place}
use Rattle.operating_db.specs.Office.{Office}
use Rattle.operating_db.specs.declared.message_change.MessageChange.{MessageChange}

-- the row of its wagon is there with this promise, and the status table has this change
pub record IsChange (office : Office) (message : message.Message) (change : Change) (promise : Option (List ℕ)) : Type 0 where
  pub row : WagonRow
  pub found : wagon_in office.wagons message.wagon ≡ Some row
  pub promise_is : promise ≡ row.promise
  pub stepped : step_of row message (order_place office.orders row.promise) ≡ Ok change

-- the row at an index is that of the wagon of this number
abbrev pub IsRowAt : List WagonRow → ℕ → List ℕ → Type 0
IsRowAt rows index number = (row : WagonRow) × (slice_get rows index ≡ Some row) × (row.number ≡ number)

-- the change of a message, whose row stands at its index, and carries at most 200,000 kg
pub record IsChangeOf (office : Office) (message : message.Message) (found : MessageChange) : Type 0 where
  pub change : IsChange office message found.change found.promise
  pub index : IsRowAt office.wagons found.index found.change.row.number
  pub few_kg : found.change.row.load_limit ≤ max_load
