-- The wagons of an office as rows: a row for each wagon, ascending by number.
use Rattle.std.specs.Prelude.{◌≡◌, ℕ, Bool, true, false, List, [], ◌∷◌, ◌++◌, Option, Some, None, codes, decimal}
use Rattle.place_names.specs.declared.named_place.NamedPlace.{NamedPlace}
use Rattle.text_tables.specs.Clock.{IsShown}
use Rattle.text_tables.specs.Form.{rows_text}
use Rattle.text_tables.specs.PlaceCells.{place_in}
use Rattle.text_tables.specs.Row.{Row}
use Rattle.text_tables.specs.RowsBelow.{AreBelow}
use Rattle.text_tables.specs.declared.aligned.Side.{Side}
use Rattle.text_tables.specs.declared.aligned.Side.TheVariants.{Left, Right}
use Rattle.text_tables.specs.declared.clock.Clock.{Clock}
use Rattle.text_tables.specs.declared.form.Form.{Form}
use Rattle.text_tables.specs.declared.form.Form.TheVariants.{Csv, Json, Table}
use Rattle.wagons_and_orders.specs.StatusTable.{place_of}
use Rattle.wagons_and_orders.specs.StatusWords.{ready_moment, status_word}
use Rattle.wagons_and_orders.specs.declared.wagon_row.WagonRow.{WagonRow}

-- ---- titles

-- for people
abbrev pub wagon_titles : Row
wagon_titles =
    codes "wagon" ∷ codes "class" ∷ codes "limit" ∷ codes "status" ∷ codes "place" ∷ codes "last" ∷ codes "ready" ∷ codes "held"
    ∷ codes "order" ∷ []

-- for a program
abbrev pub wagon_fields : Row
wagon_fields =
    codes "wagon" ∷ codes "class" ∷ codes "load_limit" ∷ codes "status" ∷ codes "place" ∷ codes "place_name" ∷ codes "last"
    ∷ codes "ready" ∷ codes "held" ∷ codes "order" ∷ []

abbrev pub titles_in : Form → Row
titles_in Table = wagon_titles
titles_in Csv = wagon_fields
titles_in Json = wagon_fields

-- the load limit is a number
abbrev pub sides_in : Form → List Side
sides_in Table = Left ∷ Left ∷ Right ∷ Left ∷ Left ∷ Left ∷ Left ∷ Left ∷ Left ∷ []
sides_in Csv = Left ∷ Left ∷ Right ∷ Left ∷ Left ∷ Left ∷ Left ∷ Left ∷ Left ∷ Left ∷ []
sides_in Json = Left ∷ Left ∷ Right ∷ Left ∷ Left ∷ Left ∷ Left ∷ Left ∷ Left ∷ Left ∷ []

-- ---- cells

-- since when a wagon is ready, as a clock shows it; nothing where it isn't empty
abbrev pub IsReadyCell : Clock → Option ℕ → (cell : List ℕ) → Type 0
IsReadyCell clock None cell = cell ≡ []
IsReadyCell clock (Some ready) cell = IsShown clock ready cell

abbrev pub held_cell : Bool → List ℕ
held_cell true = codes "held"
held_cell false = []

-- the order that a wagon is promised to
abbrev pub promise_cell : Option (List ℕ) → List ℕ
promise_cell None = []
promise_cell (Some order) = order

-- the cells of a wagon: number, class, load limit in kg, status, place, moment of its last message, since when it is ready,
-- whether it is held, and the order that it is promised to
abbrev pub wagon_cells : Form → List NamedPlace → WagonRow → (last ready : List ℕ) → Row
wagon_cells form places wagon last ready =
    wagon.number ∷ wagon.class ∷ decimal wagon.load_limit ∷ status_word wagon.status
    ∷ (place_in form places (place_of wagon.status) ++ last ∷ ready ∷ held_cell wagon.held ∷ promise_cell wagon.promise ∷ [])

-- the row of a wagon in a form, with moments as a clock shows them
pub record IsRowOfWagon (form : Form) (places : List NamedPlace) (clock : Clock) (wagon : WagonRow) (row : Row) : Type 0 where
  pub last : List ℕ
  pub last_shown : IsShown clock wagon.last last
  pub ready : List ℕ
  pub ready_shown : IsReadyCell clock (ready_moment wagon.status) ready
  pub cells : row ≡ wagon_cells form places wagon last ready

-- ---- the text

-- titles, and a row for each wagon
pub record IsFleetText (places : List NamedPlace) (clock : Clock) (form : Form) (wagons : List WagonRow) (text : List ℕ) : Type 0 where
  pub rows : List Row
  pub below : AreBelow (IsRowOfWagon form places clock) (titles_in form) wagons rows
  pub whole : text ≡ rows_text form (sides_in form) rows
