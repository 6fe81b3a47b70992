-- The orders of an office as rows: a row for each order, as placed.
use Rattle.std.specs.Prelude.{◌≡◌, ℕ, List, [], ◌∷◌, ◌++◌, codes, decimal}
use Rattle.std.specs.List.{join_with_byte}
use Rattle.dispatch_sheet.specs.Sheet.{state_word}
use Rattle.place_names.specs.declared.named_place.NamedPlace.{NamedPlace}
use Rattle.text_tables.specs.Clock.{IsShown}
use Rattle.text_tables.specs.Form.{rows_text}
use Rattle.text_tables.specs.PlaceCells.{place_in}
use Rattle.text_tables.specs.Row.{Row}
use Rattle.text_tables.specs.RowsBelow.{AreBelow}
use Rattle.text_tables.specs.declared.aligned.Side.{Side}
use Rattle.text_tables.specs.declared.aligned.Side.TheVariants.{Left, Right}
use Rattle.text_tables.specs.declared.clock.Clock.{Clock}
use Rattle.text_tables.specs.declared.form.Form.{Form}
use Rattle.text_tables.specs.declared.form.Form.TheVariants.{Csv, Json, Table}
use Rattle.wagons_and_orders.specs.Lack.{lack_of}
use Rattle.wagons_and_orders.specs.OrderRow.{OrderRowValue}
use Rattle.wagons_and_orders.specs.States.{state_of}

-- ---- titles

-- for people
abbrev pub order_titles : Row
order_titles =
    codes "order" ∷ codes "place" ∷ codes "classes" ∷ codes "load" ∷ codes "latest" ∷ codes "penalty" ∷ codes "state"
    ∷ codes "wanted" ∷ codes "missing" ∷ codes "promised" ∷ codes "filled" ∷ []

-- for a program
abbrev pub order_fields : Row
order_fields =
    codes "order" ∷ codes "place" ∷ codes "place_name" ∷ codes "classes" ∷ codes "load" ∷ codes "latest" ∷ codes "penalty"
    ∷ codes "state" ∷ codes "wanted" ∷ codes "missing" ∷ codes "promised" ∷ codes "filled" ∷ []

abbrev pub titles_in : Form → Row
titles_in Table = order_titles
titles_in Csv = order_fields
titles_in Json = order_fields

-- the load, the penalty, and how many wagons are wanted and missing are numbers
abbrev pub sides_in : Form → List Side
sides_in Table = Left ∷ Left ∷ Left ∷ Right ∷ Left ∷ Right ∷ Left ∷ Right ∷ Right ∷ Left ∷ Left ∷ []
sides_in Csv = Left ∷ Left ∷ Left ∷ Left ∷ Right ∷ Left ∷ Right ∷ Left ∷ Right ∷ Right ∷ Left ∷ Left ∷ []
sides_in Json = Left ∷ Left ∷ Left ∷ Left ∷ Right ∷ Left ∷ Right ∷ Left ∷ Right ∷ Right ∷ Left ∷ Left ∷ []

-- ---- cells

-- codes, parted by spaces
abbrev pub words_cell : List (List ℕ) → List ℕ
words_cell words = join_with_byte 32 words

-- the cells of an order: name, place, the classes that it accepts, the load of each wagon in kg, the latest moment, the penalty
-- of each missing wagon in km, its state, how many wagons it wants and misses, the wagons promised to it, and those that
-- filled it
abbrev pub order_cells : Form → List NamedPlace → OrderRowValue → (latest : List ℕ) → Row
order_cells form places order latest =
    order.text.id
    ∷ (place_in form places order.text.place
    ++ words_cell order.text.classes ∷ decimal order.text.load ∷ latest ∷ decimal order.text.penalty ∷ state_word (state_of order)
    ∷ decimal order.text.wagons ∷ decimal (lack_of order) ∷ words_cell order.promised ∷ words_cell order.filled ∷ [])

-- the row of an order in a form, with moments as a clock shows them
pub record IsRowOfOrder (form : Form) (places : List NamedPlace) (clock : Clock) (order : OrderRowValue) (row : Row) : Type 0 where
  pub latest : List ℕ
  pub latest_shown : IsShown clock order.text.latest latest
  pub cells : row ≡ order_cells form places order latest

-- ---- the text

-- titles, and a row for each order
pub record IsOrdersText (places : List NamedPlace) (clock : Clock) (form : Form) (orders : List OrderRowValue) (text : List ℕ) : Type 0 where
  pub rows : List Row
  pub below : AreBelow (IsRowOfOrder form places clock) (titles_in form) orders rows
  pub whole : text ≡ rows_text form (sides_in form) rows
