-- Movements as they are listed one after the other.
use Rattle.std.specs.Prelude.{◌≡◌, ℕ, List, [], ◌∷◌, ◌++◌, Option, Some, None, filter}
use Rattle.std.specs.List.{AllZip}
use Rattle.line_network.specs.Network.{NetworkValue}
use Rattle.operating_db.specs.Office.{Office}
use Rattle.wagons_and_orders.specs.OrderRow.{OrderRowValue}
use Rattle.wagons_and_orders.specs.declared.wagon_row.WagonRow.{WagonRow}
use Rattle.movements.specs.Choices.{keeps_movement}
use Rattle.movements.specs.Movements.{IsMovement, is_promised}
use Rattle.movements.specs.declared.choice.Choice.{Choice}
use Rattle.movements.specs.declared.movement.Movement.{Movement}

-- one for each promised wagon among these rows
abbrev pub AreMovements : NetworkValue → (at : ℕ) → List OrderRowValue → List WagonRow → List Movement → Type 0
AreMovements net at orders rows movements = AllZip (IsMovement net at orders) (filter is_promised rows) movements

-- that of a row's wagon was added, if it has this promise
abbrev pub AddsWith : Option (List ℕ) → NetworkValue → (at : ℕ) → List OrderRowValue → WagonRow → (old new : List Movement) → Type 0
AddsWith None net at orders row old new = new ≡ old
AddsWith (Some id) net at orders row old new = (movement : Movement) × IsMovement net at orders row movement × (new ≡ old ++ movement ∷ [])

abbrev pub AddsMovement : NetworkValue → (at : ℕ) → List OrderRowValue → WagonRow → (old new : List Movement) → Type 0
AddsMovement net at orders row old new = AddsWith row.promise net at orders row old new

-- those of an office that a choice keeps
pub record AreKept (net : NetworkValue) (at : ℕ) (office : Office) (choice : Choice) (kept : List Movement) : Type 0 where
  pub all : List Movement
  pub each : AreMovements net at office.orders office.wagons all
  pub movements : kept ≡ filter (keeps_movement choice) all
