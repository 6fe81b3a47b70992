-- The row of an order.
use Rattle.std.specs.Prelude.{◌≡◌, ℕ, ◌+◌, ◌≤◌, Bool, true, false, List, [], length}
use Rattle.move_messages.specs.Order.{Order}
use Rattle.wagons_and_orders.specs.Numbers.{IsAscending}

-- an order of the office: what it asks for, the wagons promised to it, those that filled it, and whether it is
-- taken back; wagons by their numbers
pub record OrderRowValue : Type 0 where
  pub text : Order
  pub promised : List (List ℕ)
  pub filled : List (List ℕ)
  pub withdrawn : Bool

-- What every row keeps: it has no more wagons than it wants; the promised ones strictly ascend by number, so each is
-- there once; and an order that is taken back has no promised wagon.
pub record IsOrderRow (row : OrderRowValue) : Type 0 where
  pub no_more : length row.promised + length row.filled ≤ row.text.wagons
  pub ascending : IsAscending row.promised
  pub withdrawn : row.withdrawn ≡ true → row.promised ≡ []

-- the row of an order just placed
abbrev pub placed_row : Order → OrderRowValue
placed_row order = record { text = order; promised = []; filled = []; withdrawn = false }
