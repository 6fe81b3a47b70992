-- A place in a table: with its name behind it for people, or beside it.
use Rattle.std.specs.Prelude.{ℕ, List, [], ◌∷◌, ◌++◌}
use Rattle.place_names.specs.Names.{name_of, name_word}
use Rattle.place_names.specs.declared.named_place.NamedPlace.{NamedPlace}
use Rattle.text_tables.specs.Row.{Row}
use Rattle.text_tables.specs.declared.form.Form.{Form}
use Rattle.text_tables.specs.declared.form.Form.TheVariants.{Csv, Json, Table}

-- a place, and its name behind it, if it has one
abbrev pub place_cell : List NamedPlace → (place : List ℕ) → List ℕ
place_cell places place = place ++ name_word (name_of places place)

-- a place, and its name in the next cell, which is empty where it has none
abbrev pub place_cells : List NamedPlace → (place : List ℕ) → Row
place_cells places place = place ∷ name_of places place ∷ []

-- a place in a form: one cell for people, two for a program
abbrev pub place_in : Form → List NamedPlace → (place : List ℕ) → Row
place_in Table places place = place_cell places place ∷ []
place_in Csv places place = place_cells places place
place_in Json places place = place_cells places place
