-- Movements as CSV: a header, a record for each movement, then one for each order, then one for each wagon that hasn't been
-- heard from.
use Rattle.std.specs.Prelude.{◌≡◌, ℕ, List, ◌∷◌, ◌++◌}
use Rattle.std.specs.List.{AllZip}
use Rattle.place_names.specs.declared.named_place.NamedPlace.{NamedPlace}
use Rattle.text_tables.specs.CsvRows.{csv_text}
use Rattle.text_tables.specs.Row.{Row}
use Rattle.text_tables.specs.declared.clock.Clock.{Clock}
use Rattle.movements.specs.Fields.{AreMovementFields, AreOrderFields, AreSilentFields, csv_titles}
use Rattle.movements.specs.declared.movement_list.MovementList.{MovementList}

pub record AreCsvRows (places : List NamedPlace) (clock : Clock) (list : MovementList) (all : List Row) : Type 0 where
  pub movements : List Row
  pub each_movement : AllZip (AreMovementFields places clock) list.movements.items movements
  pub orders : List Row
  pub each_order : AllZip (AreOrderFields places clock) list.orders.items orders
  pub silent : List Row
  pub each_silent : AllZip (AreSilentFields places clock) list.silent.items silent
  pub whole : all ≡ csv_titles ∷ movements ++ orders ++ silent

-- A field with a comma, a quotation mark or a line break in it stands in quotation marks.
pub record IsCsvText (places : List NamedPlace) (clock : Clock) (list : MovementList) (text : List ℕ) : Type 0 where
  pub rows : List Row
  pub each : AreCsvRows places clock list rows
  pub whole : text ≡ csv_text rows
