-- The rows of a plan's table: the cells of each wagon that goes, and of each order that misses wagons.
use Rattle.std.specs.Prelude.{◌≡◌, ℕ, List, [], ◌∷◌, codes, decimal}
use Rattle.place_names.specs.Names.{name_of}
use Rattle.place_names.specs.declared.named_place.NamedPlace.{NamedPlace}
use Rattle.text_tables.specs.declared.clock.Clock.{Clock}
use Rattle.plan_reasons.specs.declared.journey.Journey.{Journey}
use Rattle.plan_table.specs.declared.plan_list.Shortfall.{Shortfall}
use Rattle.text_tables.specs.Clock.{IsShown}
use Rattle.text_tables.specs.PlaceCells.{place_cell}
use Rattle.plan_table.specs.Reasons.{reason_phrase}
use Rattle.text_tables.specs.Row.{Row}

-- ---- in a table

abbrev pub journey_titles : Row
journey_titles =
    codes "wagon" ∷ codes "class" ∷ codes "from" ∷ codes "to" ∷ codes "km" ∷ codes "minutes" ∷ codes "arrival" ∷ codes "order" ∷ []

abbrev pub journey_row : List NamedPlace → Journey → (arrival : List ℕ) → Row
journey_row places journey arrival =
    journey.wagon ∷ journey.class ∷ place_cell places journey.from ∷ place_cell places journey.to
    ∷ decimal journey.km ∷ decimal journey.minutes ∷ arrival ∷ journey.order ∷ []

-- the row of a wagon that goes to an order
pub record IsJourneyRow (places : List NamedPlace) (clock : Clock) (journey : Journey) (row : Row) : Type 0 where
  pub arrival : List ℕ
  pub shown : IsShown clock journey.arrival arrival
  pub cells : row ≡ journey_row places journey arrival

abbrev pub shortfall_titles : Row
shortfall_titles = codes "order" ∷ codes "missing" ∷ codes "penalty" ∷ codes "why" ∷ []

-- the row of an order that misses wagons: how many, and the penalty of each, in km
abbrev pub shortfall_row : Shortfall → Row
shortfall_row shortfall =
    shortfall.order ∷ decimal shortfall.missing ∷ decimal shortfall.penalty ∷ reason_phrase shortfall.gets shortfall.reason ∷ []

-- ---- for a spreadsheet

abbrev pub csv_titles : Row
csv_titles =
    codes "wagon" ∷ codes "class" ∷ codes "from" ∷ codes "from_name" ∷ codes "to" ∷ codes "to_name" ∷ codes "km" ∷ codes "minutes"
    ∷ codes "arrival" ∷ codes "order" ∷ codes "missing" ∷ codes "penalty" ∷ codes "why" ∷ []

abbrev pub journey_fields : List NamedPlace → Journey → (arrival : List ℕ) → Row
journey_fields places journey arrival =
    journey.wagon ∷ journey.class ∷ journey.from ∷ name_of places journey.from ∷ journey.to ∷ name_of places journey.to
    ∷ decimal journey.km ∷ decimal journey.minutes ∷ arrival ∷ journey.order ∷ [] ∷ [] ∷ [] ∷ []

pub record AreJourneyFields (places : List NamedPlace) (clock : Clock) (journey : Journey) (row : Row) : Type 0 where
  pub arrival : List ℕ
  pub shown : IsShown clock journey.arrival arrival
  pub cells : row ≡ journey_fields places journey arrival

-- an order that misses wagons has none of a wagon's fields
abbrev pub shortfall_fields : List NamedPlace → Shortfall → Row
shortfall_fields places shortfall =
    [] ∷ [] ∷ [] ∷ [] ∷ shortfall.place ∷ name_of places shortfall.place ∷ [] ∷ []
    ∷ [] ∷ shortfall.order ∷ decimal shortfall.missing ∷ decimal shortfall.penalty ∷ reason_phrase shortfall.gets shortfall.reason ∷ []
