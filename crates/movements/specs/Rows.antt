-- The rows of the tables for people.
use Rattle.std.specs.Prelude.{◌≡◌, ℕ, List, [], ◌∷◌, ◌++◌, codes}
use Rattle.place_names.specs.declared.named_place.NamedPlace.{NamedPlace}
use Rattle.text_tables.specs.Clock.{IsShown}
use Rattle.text_tables.specs.PlaceCells.{place_cell}
use Rattle.text_tables.specs.Row.{Row}
use Rattle.text_tables.specs.declared.clock.Clock.{Clock}
use Rattle.wagons_and_orders.specs.StatusTable.{place_of}
use Rattle.wagons_and_orders.specs.StatusWords.{status_word}
use Rattle.wagons_and_orders.specs.declared.status.Status.{Status}
use Rattle.movements.specs.Cells.{IsArrival, km_cell, minutes_cell, need_cells}
use Rattle.movements.specs.Lateness.{outlook_by}
use Rattle.movements.specs.Words.{order_words, outlook_words}
use Rattle.movements.specs.declared.movement.Movement.{Movement}
use Rattle.movements.specs.declared.need.OrderNeed.{OrderNeed}
use Rattle.movements.specs.declared.silence.SilentWagon.{SilentWagon}

-- a wagon, its class, what it is doing, and where
abbrev pub wagon_cells : List NamedPlace → (wagon class : List ℕ) → Status → Row
wagon_cells places wagon class status = wagon ∷ class ∷ status_word status ∷ place_cell places (place_of status) ∷ []

-- ---- movements

abbrev pub movement_titles : Row
movement_titles =
    codes "wagon" ∷ codes "class" ∷ codes "status" ∷ codes "place" ∷ codes "since" ∷ codes "order" ∷ codes "to" ∷ codes "km"
    ∷ codes "minutes" ∷ codes "arrival" ∷ codes "latest" ∷ codes "state" ∷ []

abbrev pub movement_row : List NamedPlace → Movement → (since arrival latest : List ℕ) → Row
movement_row places movement since arrival latest =
    wagon_cells places movement.wagon movement.class movement.status
    ++ since ∷ movement.order ∷ place_cell places movement.to ∷ km_cell movement.way ∷ minutes_cell movement.way ∷ arrival ∷ latest
    ∷ outlook_words (outlook_by movement.latest movement.way) ∷ []

-- the wagon with its last message, its order and where it goes, the way there, and whether it will be in time
pub record IsMovementRow (places : List NamedPlace) (clock : Clock) (movement : Movement) (row : Row) : Type 0 where
  pub since : List ℕ
  pub since_shown : IsShown clock movement.since since
  pub arrival : List ℕ
  pub arrival_shown : IsArrival clock movement.way arrival
  pub latest : List ℕ
  pub latest_shown : IsShown clock movement.latest latest
  pub cells : row ≡ movement_row places movement since arrival latest

-- ---- orders

abbrev pub order_titles : Row
order_titles =
    codes "order" ∷ codes "place" ∷ codes "latest" ∷ codes "wanted" ∷ codes "filled" ∷ codes "promised" ∷ codes "missing"
    ∷ codes "penalty" ∷ codes "state" ∷ []

abbrev pub order_row : List NamedPlace → OrderNeed → (latest : List ℕ) → Row
order_row places need latest = need.order ∷ place_cell places need.place ∷ latest ∷ need_cells need (order_words need)

pub record IsOrderRow (places : List NamedPlace) (clock : Clock) (need : OrderNeed) (row : Row) : Type 0 where
  pub latest : List ℕ
  pub latest_shown : IsShown clock need.latest latest
  pub cells : row ≡ order_row places need latest

-- ---- wagons that haven't been heard from

abbrev pub silent_titles : Row
silent_titles = codes "silent" ∷ codes "class" ∷ codes "status" ∷ codes "place" ∷ codes "since" ∷ []

abbrev pub silent_row : List NamedPlace → SilentWagon → (since : List ℕ) → Row
silent_row places silent since = wagon_cells places silent.wagon silent.class silent.status ++ since ∷ []

pub record IsSilentRow (places : List NamedPlace) (clock : Clock) (silent : SilentWagon) (row : Row) : Type 0 where
  pub since : List ℕ
  pub since_shown : IsShown clock silent.since since
  pub cells : row ≡ silent_row places silent since
