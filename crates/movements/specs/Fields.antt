-- The records of a file of CSV: the fields that a kind lacks are empty.
use Rattle.std.specs.Prelude.{◌≡◌, ℕ, nat_lt, if◌then◌else◌, List, [], ◌∷◌, ◌++◌, codes, decimal, replicate}
use Rattle.place_names.specs.declared.named_place.NamedPlace.{NamedPlace}
use Rattle.text_tables.specs.Clock.{IsShown}
use Rattle.text_tables.specs.PlaceCells.{place_cells}
use Rattle.text_tables.specs.Row.{Row}
use Rattle.text_tables.specs.declared.clock.Clock.{Clock}
use Rattle.wagons_and_orders.specs.StatusTable.{place_of}
use Rattle.wagons_and_orders.specs.StatusWords.{status_word}
use Rattle.wagons_and_orders.specs.declared.status.Status.{Status}
use Rattle.movements.specs.Cells.{IsArrival, km_cell, minutes_cell, need_cells}
use Rattle.movements.specs.Lateness.{outlook_by}
use Rattle.movements.specs.Words.{order_state, outlook_word}
use Rattle.movements.specs.declared.movement.Movement.{Movement}
use Rattle.movements.specs.declared.need.OrderNeed.{OrderNeed}
use Rattle.movements.specs.declared.outlook.Outlook.{Outlook}
use Rattle.movements.specs.declared.outlook.Outlook.TheVariants.{NoWay, Late, InTime}
use Rattle.movements.specs.declared.silence.SilentWagon.{SilentWagon}

abbrev pub csv_titles : Row
csv_titles =
    codes "kind" ∷ codes "wagon" ∷ codes "class" ∷ codes "status" ∷ codes "place" ∷ codes "place_name" ∷ codes "since"
    ∷ codes "order" ∷ codes "to" ∷ codes "to_name" ∷ codes "km" ∷ codes "minutes" ∷ codes "arrival" ∷ codes "latest"
    ∷ codes "spare" ∷ codes "late" ∷ codes "wanted" ∷ codes "filled" ∷ codes "promised" ∷ codes "missing" ∷ codes "penalty"
    ∷ codes "state" ∷ []

-- a wagon, its class, what it is doing, the place where it is, and the place's name
abbrev pub wagon_fields : List NamedPlace → (wagon class : List ℕ) → Status → Row
wagon_fields places wagon class status =
    wagon ∷ class ∷ status_word status ∷ place_cells places (place_of status)

-- the minutes to spare, and the minutes late: one of the two, and none where there is no way
abbrev pub margin_fields : Outlook → Row
margin_fields NoWay = [] ∷ [] ∷ []
margin_fields (Late minutes) = [] ∷ decimal minutes ∷ []
margin_fields (InTime minutes) = decimal minutes ∷ [] ∷ []

-- ---- movements

abbrev pub movement_fields : List NamedPlace → Movement → (since arrival latest : List ℕ) → Row
movement_fields places movement since arrival latest =
    codes "movement" ∷ wagon_fields places movement.wagon movement.class movement.status
    ++ since ∷ movement.order ∷ place_cells places movement.to ++ km_cell movement.way ∷ minutes_cell movement.way ∷ arrival ∷ latest
    ∷ margin_fields (outlook_by movement.latest movement.way)
    ++ replicate 5 [] ++ outlook_word (outlook_by movement.latest movement.way) ∷ []

pub record AreMovementFields (places : List NamedPlace) (clock : Clock) (movement : Movement) (row : Row) : Type 0 where
  pub since : List ℕ
  pub since_shown : IsShown clock movement.since since
  pub arrival : List ℕ
  pub arrival_shown : IsArrival clock movement.way arrival
  pub latest : List ℕ
  pub latest_shown : IsShown clock movement.latest latest
  pub cells : row ≡ movement_fields places movement since arrival latest

-- ---- orders, whose place stands where wagons go to

-- by how many minutes the order was filled late, if it was
abbrev pub late_field : (minutes : ℕ) → List ℕ
late_field minutes = if nat_lt 0 minutes then decimal minutes else []

abbrev pub order_fields : List NamedPlace → OrderNeed → (latest : List ℕ) → Row
order_fields places need latest =
    codes "order" ∷ replicate 6 [] ++ need.order ∷ place_cells places need.place ++ [] ∷ [] ∷ [] ∷ latest ∷ [] ∷ late_field need.late
    ∷ need_cells need (order_state need)

pub record AreOrderFields (places : List NamedPlace) (clock : Clock) (need : OrderNeed) (row : Row) : Type 0 where
  pub latest : List ℕ
  pub latest_shown : IsShown clock need.latest latest
  pub cells : row ≡ order_fields places need latest

-- ---- wagons that haven't been heard from

abbrev pub silent_fields : List NamedPlace → SilentWagon → (since : List ℕ) → Row
silent_fields places silent since =
    codes "silent" ∷ wagon_fields places silent.wagon silent.class silent.status
    ++ since ∷ replicate 14 [] ++ codes "silent" ∷ []

pub record AreSilentFields (places : List NamedPlace) (clock : Clock) (silent : SilentWagon) (row : Row) : Type 0 where
  pub since : List ℕ
  pub since_shown : IsShown clock silent.since since
  pub cells : row ≡ silent_fields places silent since
