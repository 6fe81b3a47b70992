-- What makes the line of a wagon or an order read as its row.
use Rattle.std.specs.Prelude.{◌≡◌, ℕ, List, Option, Some, None, All, Ok}
use Rattle.rail_codes.specs.ClassCode.{class_code_of}
use Rattle.rail_codes.specs.Moment.{IsMomentText, moment_of}
use Rattle.rail_codes.specs.OrderId.{order_id_of}
use Rattle.rail_codes.specs.Place.{place_read}
use Rattle.rail_codes.specs.WagonNumber.{wagon_number_of}
use Rattle.move_messages.specs.Classes.{IsClassList}
use Rattle.wagons_and_orders.specs.declared.wagon_row.WagonRow.{WagonRow}
use Rattle.wagons_and_orders.specs.OrderRow.{OrderRowValue}
use Rattle.wagons_and_orders.specs.StatusTable.{place_of}

-- the text of a moment, which is read as it
abbrev pub IsReadableText : ℕ → List ℕ → Type 0
IsReadableText seconds text = IsMomentText seconds text × (moment_of text ≡ Ok seconds)

-- the same, where there is a moment
abbrev pub IsReadableIfThere : Option ℕ → Option (List ℕ) → Type 0
IsReadableIfThere None None = Unit {0}
IsReadableIfThere None (Some text) = ⊥
IsReadableIfThere (Some seconds) None = ⊥
IsReadableIfThere (Some seconds) (Some text) = IsReadableText seconds text

-- the name of an order, where there is one
abbrev pub IsPromiseRead : Option (List ℕ) → Type 0
IsPromiseRead None = Unit {0}
IsPromiseRead (Some id) = order_id_of id ≡ Ok id

abbrev pub AreNumbersRead : List (List ℕ) → Type 0
AreNumbersRead numbers = All (λ number. wagon_number_of number ≡ Ok number) numbers

abbrev pub AreClassesRead : List (List ℕ) → Type 0
AreClassesRead classes = All (λ class. class_code_of class ≡ Ok class) classes

-- the codes of a wagon are read as themselves
pub record AreWagonCodes (row : WagonRow) : Type 0 where
  pub number : wagon_number_of row.number ≡ Ok row.number
  pub class : class_code_of row.class ≡ Ok row.class
  pub place : place_read (place_of row.status) ≡ Ok (place_of row.status)
  pub promise : IsPromiseRead row.promise

-- and those of an order
pub record AreOrderCodes (row : OrderRowValue) : Type 0 where
  pub id : order_id_of row.text.id ≡ Ok row.text.id
  pub place : place_read row.text.place ≡ Ok row.text.place
  pub classes : AreClassesRead row.text.classes
  pub class_count : IsClassList row.text.classes
  pub promised : AreNumbersRead row.promised
  pub filled : AreNumbersRead row.filled
