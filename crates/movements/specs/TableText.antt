-- Movements as a text for people: of which version they are and at which moment; a table of the movements; one of the orders and
-- one of the wagons that haven't been heard from, if there are any.
use Rattle.std.specs.Prelude.{◌≡◌, ℕ, List, [], ◌∷◌, ◌++◌, codes, decimal}
use Rattle.std.specs.List.{AllZip}
use Rattle.place_names.specs.declared.named_place.NamedPlace.{NamedPlace}
use Rattle.text_tables.specs.Aligned.{aligned_text}
use Rattle.text_tables.specs.Clock.{IsShown}
use Rattle.text_tables.specs.Row.{Row}
use Rattle.text_tables.specs.declared.aligned.Side.{Side}
use Rattle.text_tables.specs.declared.aligned.Side.TheVariants.{Left, Right}
use Rattle.text_tables.specs.declared.clock.Clock.{Clock}
use Rattle.movements.specs.Rows.{IsMovementRow, IsOrderRow, IsSilentRow, movement_titles, order_titles, silent_titles}
use Rattle.movements.specs.declared.movement_list.MovementList.{MovementList}

-- ---- numbers stand at the right

abbrev pub movement_sides : List Side
movement_sides = Left ∷ Left ∷ Left ∷ Left ∷ Left ∷ Left ∷ Left ∷ Right ∷ Right ∷ Left ∷ Left ∷ Left ∷ []

abbrev pub order_sides : List Side
order_sides = Left ∷ Left ∷ Left ∷ Right ∷ Right ∷ Right ∷ Right ∷ Right ∷ Left ∷ []

abbrev pub silent_sides : List Side
silent_sides = Left ∷ Left ∷ Left ∷ Left ∷ Left ∷ []

-- ---- the first line, and an empty one

abbrev pub version_words : (version : ℕ) → List ℕ
version_words version = codes "movements of version " ++ decimal version

abbrev pub moment_words : (at : List ℕ) → List ℕ
moment_words at = codes " at " ++ at ++ codes "\n\n"

abbrev pub head_line : (version : ℕ) → (at : List ℕ) → List ℕ
head_line version at = version_words version ++ moment_words at

-- ---- the tables

abbrev pub movements_text : List Row → List ℕ
movements_text rows = aligned_text movement_sides (movement_titles ∷ rows)

-- behind an empty line, if there is a row
abbrev pub table_behind : List Side → (titles : Row) → List Row → List ℕ
table_behind sides titles [] = []
table_behind sides titles (first ∷ others) = 10 ∷ aligned_text sides (titles ∷ first ∷ others)

abbrev pub orders_text : List Row → List ℕ
orders_text rows = table_behind order_sides order_titles rows

abbrev pub silent_text : List Row → List ℕ
silent_text rows = table_behind silent_sides silent_titles rows

pub record IsTableText (places : List NamedPlace) (clock : Clock) (list : MovementList) (text : List ℕ) : Type 0 where
  pub at : List ℕ
  pub at_shown : IsShown clock list.at at
  pub movements : List Row
  pub each_movement : AllZip (IsMovementRow places clock) list.movements.items movements
  pub orders : List Row
  pub each_order : AllZip (IsOrderRow places clock) list.orders.items orders
  pub silent : List Row
  pub each_silent : AllZip (IsSilentRow places clock) list.silent.items silent
  pub whole : text ≡ head_line list.version at ++ movements_text movements ++ orders_text orders ++ silent_text silent
