-- The rows that the wagons of an office can have.
use Rattle.std.specs.Prelude.{◌≡◌, ◌≤◌, ◌&&◌, ◌||◌, ℕ, Bool, true, false, not, nat_le, is_none, None, IsSome, IsTrue, Ok, Option, List}
use Rattle.move_messages.specs.declared.message.Message.{Message}
use Rattle.wagons_and_orders.specs.declared.change.Change.{Change}
use Rattle.wagons_and_orders.specs.declared.load.Load.TheVariants.{Unladen}
use Rattle.wagons_and_orders.specs.declared.status.Status.{Status}
use Rattle.wagons_and_orders.specs.declared.status.Status.TheVariants.{Empty, Journey, Yard, Arrived}
use Rattle.wagons_and_orders.specs.declared.wagon_row.WagonRow.{WagonRow}
use Rattle.wagons_and_orders.specs.StatusTable.{step_of}

-- an empty wagon has been ready since this moment, or an earlier one
abbrev pub IsReadyBy : ℕ → Status → Type 0
IsReadyBy moment (Empty place ready) = ready ≤ moment
IsReadyBy moment status = Unit {0}

-- whether a wagon is empty, or on its way unladen
abbrev pub is_unladen : Status → Bool
is_unladen (Empty place ready) = true
is_unladen (Journey Unladen place) = true
is_unladen (Yard Unladen place) = true
is_unladen (Arrived Unladen place) = true
is_unladen status = false

-- A held wagon is promised to nobody; an empty one has been ready since its last message, or longer; and a promised one is
-- empty, or on its way unladen.
pub record IsPossibleRow (row : WagonRow) : Type 0 where
  pub held : IsTrue row.held → row.promise ≡ None
  pub ready : IsReadyBy row.last row.status
  pub promised : IsSome row.promise → IsTrue (is_unladen row.status)

-- the same, as a test
abbrev pub is_ready_by : ℕ → Status → Bool
is_ready_by moment (Empty place ready) = nat_le ready moment
is_ready_by moment status = true

abbrev pub is_possible : WagonRow → Bool
is_possible row = is_ready_by row.last row.status && (is_none row.promise || (not row.held && is_unladen row.status))

-- each message leads such a row to such a row, wherever an order wants its wagons
abbrev pub RowsStayPossible : Type 0
RowsStayPossible = (row : WagonRow) (message : Message) (order_place : Option (List ℕ)) (change : Change) → step_of row message order_place ≡ Ok change
    → IsPossibleRow row → IsPossibleRow change.row
