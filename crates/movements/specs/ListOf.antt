-- The list of an office's movements: of the promised wagons, of the orders that aren't withdrawn, and of the wagons that haven't
-- been heard from, those that a choice keeps, in order.
use Rattle.std.specs.Prelude.{◌≡◌, ℕ, List, filter}
use Rattle.std.specs.List.{AllZip}
use Rattle.line_network.specs.Network.{NetworkValue}
use Rattle.operating_db.specs.Office.{Office}
use Rattle.wagons_and_orders.specs.OrderRow.{OrderRowValue}
use Rattle.wagons_and_orders.specs.declared.wagon_row.WagonRow.{WagonRow}
use Rattle.movements.specs.Choices.{keeps_movement, keeps_order, keeps_silent}
use Rattle.movements.specs.Movements.{IsMovement, is_promised}
use Rattle.movements.specs.Needs.{LateFills, order_needs}
use Rattle.movements.specs.Silence.{silent_wagons}
use Rattle.movements.specs.declared.choice.Choice.{Choice}
use Rattle.movements.specs.declared.movement.Movement.{Movement}
use Rattle.movements.specs.declared.movement_list.MovementList.{MovementList}
use Rattle.movements.specs.declared.need.OrderNeed.{OrderNeed}
use Rattle.movements.specs.declared.silence.SilentWagon.{SilentWagon}

-- the orders that a choice keeps
abbrev pub listed_orders : (at : ℕ) → LateFills → Choice → List OrderRowValue → List OrderNeed
listed_orders at late_fills choice rows = filter (keeps_order choice) (order_needs at late_fills rows)

-- the silent wagons that it keeps
abbrev pub listed_silent : (at : ℕ) → Choice → List WagonRow → List SilentWagon
listed_silent at choice rows = filter (keeps_silent choice) (silent_wagons at choice.silent rows)

-- There is a movement for each promised wagon, ascending by number, and for nothing else; those are listed that the choice
-- keeps.
pub record IsListOf (version : ℕ) (office : Office) (net : NetworkValue) (at : ℕ) (late_fills : LateFills) (choice : Choice) (list : MovementList) : Type 0 where
  pub of_version : list.version ≡ version
  pub moment : list.at ≡ at
  pub all : List Movement
  pub each : AllZip (IsMovement net at office.orders) (filter is_promised office.wagons) all
  pub movements : list.movements.items ≡ filter (keeps_movement choice) all
  pub orders : list.orders.items ≡ listed_orders at late_fills choice office.orders
  pub silent : list.silent.items ≡ listed_silent at choice office.wagons
