-- A plan as CSV for a spreadsheet: a header, a record for each wagon that goes, and one for each order that misses wagons. A
-- field with a comma, a quotation mark or a line break in it stands in quotation marks.
use Rattle.std.specs.Prelude.{◌≡◌, ℕ, List, ◌∷◌, ◌++◌, map}
use Rattle.std.specs.List.{AllZip}
use Rattle.place_names.specs.declared.named_place.NamedPlace.{NamedPlace}
use Rattle.text_tables.specs.declared.clock.Clock.{Clock}
use Rattle.plan_table.specs.declared.plan_list.PlanList.{PlanList}
use Rattle.plan_table.specs.Cells.{AreJourneyFields, csv_titles, shortfall_fields}
use Rattle.text_tables.specs.CsvRows.{csv_text}
use Rattle.text_tables.specs.Row.{Row}

pub record IsCsvText (places : List NamedPlace) (clock : Clock) (plan : PlanList) (text : List ℕ) : Type 0 where
  pub rows : List Row
  pub each : AllZip (AreJourneyFields places clock) plan.journeys.items rows
  pub whole : text ≡ csv_text (csv_titles ∷ rows ++ map (shortfall_fields places) plan.shortfalls.items)
