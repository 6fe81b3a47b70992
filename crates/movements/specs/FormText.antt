-- Movements in each form.
use Rattle.std.specs.Prelude.{◌≡◌, ℕ, List, [], ◌∷◌}
use Rattle.place_names.specs.declared.named_place.NamedPlace.{NamedPlace}
use Rattle.text_tables.specs.JsonRows.{json_lines}
use Rattle.text_tables.specs.Row.{Row}
use Rattle.text_tables.specs.declared.aligned.Side.{Side}
use Rattle.text_tables.specs.declared.aligned.Side.TheVariants.{Left, Right}
use Rattle.text_tables.specs.declared.clock.Clock.{Clock}
use Rattle.text_tables.specs.declared.form.Form.{Form}
use Rattle.text_tables.specs.declared.form.Form.TheVariants.{Csv, Json, Table}
use Rattle.movements.specs.CsvText.{AreCsvRows, IsCsvText}
use Rattle.movements.specs.TableText.{IsTableText}
use Rattle.movements.specs.declared.movement_list.MovementList.{MovementList}

-- the columns of the CSV: those of numbers at the right
abbrev pub csv_sides : List Side
csv_sides =
    Left ∷ Left ∷ Left ∷ Left ∷ Left ∷ Left ∷ Left ∷ Left ∷ Left ∷ Left ∷ Right ∷ Right ∷ Left ∷ Left ∷ Right ∷ Right ∷ Right ∷ Right
    ∷ Right ∷ Right ∷ Right ∷ Left ∷ []

-- lines of JSON: of each row of the CSV an object
pub record IsJsonText (places : List NamedPlace) (clock : Clock) (list : MovementList) (text : List ℕ) : Type 0 where
  pub rows : List Row
  pub each : AreCsvRows places clock list rows
  pub whole : text ≡ json_lines csv_sides rows

abbrev pub IsFormText : List NamedPlace → Clock → Form → MovementList → (text : List ℕ) → Type 0
IsFormText places clock Table list text = IsTableText places clock list text
IsFormText places clock Csv list text = IsCsvText places clock list text
IsFormText places clock Json list text = IsJsonText places clock list text
