-- Parts of a plan's text that were added to it.
use Rattle.std.specs.Prelude.{◌≡◌, ℕ, List, ◌∷◌, ◌++◌, map}
use Rattle.std.specs.List.{AllZip}
use Rattle.place_names.specs.declared.named_place.NamedPlace.{NamedPlace}
use Rattle.text_tables.specs.declared.clock.Clock.{Clock}
use Rattle.plan_reasons.specs.declared.journey.Journey.{Journey}
use Rattle.plan_table.specs.declared.plan_list.PlanList.{PlanList}
use Rattle.plan_table.specs.Cells.{AreJourneyFields, IsJourneyRow, csv_titles, journey_titles, shortfall_fields}
use Rattle.text_tables.specs.Row.{Row}
use Rattle.text_tables.specs.Clock.{IsShown}
use Rattle.plan_table.specs.TableText.{head_line, journeys_text}

-- the head line was added
pub record AddsHead (clock : Clock) (plan : PlanList) (old new : List ℕ) : Type 0 where
  pub at : List ℕ
  pub at_shown : IsShown clock plan.at at
  pub whole : new ≡ old ++ head_line plan.version at

-- titles, and the row of each wagon that goes
pub record AreJourneyRows (places : List NamedPlace) (clock : Clock) (journeys : List Journey) (all : List Row) : Type 0 where
  pub rows : List Row
  pub each : AllZip (IsJourneyRow places clock) journeys rows
  pub whole : all ≡ journey_titles ∷ rows

-- the table of these wagons was added
pub record AddsJourneys (places : List NamedPlace) (clock : Clock) (journeys : List Journey) (old new : List ℕ) : Type 0 where
  pub rows : List Row
  pub each : AllZip (IsJourneyRow places clock) journeys rows
  pub whole : new ≡ old ++ journeys_text rows

-- the fields of each wagon that goes
pub record AreJourneysFields (places : List NamedPlace) (clock : Clock) (journeys : List Journey) (before all : List Row) : Type 0 where
  pub rows : List Row
  pub each : AllZip (AreJourneyFields places clock) journeys rows
  pub whole : all ≡ before ++ rows

-- titles, the fields of each wagon that goes, and those of each order that misses wagons
pub record AreCsvRows (places : List NamedPlace) (clock : Clock) (plan : PlanList) (all : List Row) : Type 0 where
  pub rows : List Row
  pub each : AllZip (AreJourneyFields places clock) plan.journeys.items rows
  pub whole : all ≡ csv_titles ∷ rows ++ map (shortfall_fields places) plan.shortfalls.items
