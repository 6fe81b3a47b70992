-- The movement of a promised wagon.
use Rattle.std.specs.Prelude.{◌≡◌, ℕ, Bool, List, Some, is_some}
use Rattle.fleet_rows.specs.Rows.{order_in}
use Rattle.line_network.specs.Network.{NetworkValue}
use Rattle.wagons_and_orders.specs.OrderRow.{OrderRowValue}
use Rattle.wagons_and_orders.specs.declared.wagon_row.WagonRow.{WagonRow}
use Rattle.movements.specs.Arrivals.{IsWayOf}
use Rattle.movements.specs.declared.movement.Movement.{Movement}

-- whether the wagon of a row is promised
abbrev pub is_promised : WagonRow → Bool
is_promised row = is_some row.promise

-- The wagon of a row and the order that it is promised to: what is known of both at a moment, and the way between them.
pub record IsMovement (net : NetworkValue) (at : ℕ) (orders : List OrderRowValue) (row : WagonRow) (movement : Movement) : Type 0 where
  pub wagon : movement.wagon ≡ row.number
  pub class : movement.class ≡ row.class
  pub status : movement.status ≡ row.status
  pub since : movement.since ≡ row.last
  pub promised : row.promise ≡ Some movement.order
  pub order : OrderRowValue
  pub known : order_in orders movement.order ≡ Some order
  pub to_place : movement.to ≡ order.text.place
  pub latest : movement.latest ≡ order.text.latest
  pub way : IsWayOf net at row order.text.place movement.way
