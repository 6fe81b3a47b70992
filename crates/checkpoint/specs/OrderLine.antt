-- The line of an open order, as a contract sees it.
use Rattle.std.specs.Prelude.{ℕ, List}
use Rattle.move_messages.specs.Order.{Order}
use Rattle.wagons_and_orders.specs.OrderRow.{OrderRowValue}

-- the order as placed, the wagons promised to it, and those that filled it; wagons by their numbers
pub record OrderLineValue : Type 0 where
  pub text : Order
  pub promised : List (List ℕ)
  pub filled : List (List ℕ)

-- what the line of an order's row says
abbrev pub line_of_row : OrderRowValue → OrderLineValue
line_of_row row = record { text = row.text; promised = row.promised; filled = row.filled }
