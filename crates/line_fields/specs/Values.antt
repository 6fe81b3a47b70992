-- What a JSON value is read as, or why it is refused.
use Rattle.std.specs.Prelude.{ℕ, List, [], ◌∷◌, Bool, nat_le, ◌&&◌, if◌then◌else◌, option_and_then, Result, Ok, Err}
use Rattle.std.specs.Option.{ok_or}
use Rattle.serde_json.specs.Data.{Data, Items, no_items, item}
use Rattle.serde_json.specs.Find.{as_bool, as_number, as_u64, as_str, as_array}
use Rattle.serde_json.specs.Events.{items_len}
use Rattle.rail_codes.specs.WagonNumber.{wagon_number_of}
use Rattle.rail_codes.specs.OrderId.{order_id_of}
use Rattle.rail_codes.specs.Company.{company_of}
use Rattle.rail_codes.specs.Place.{place_read}
use Rattle.rail_codes.specs.ClassCode.{class_code_of}
use Rattle.rail_codes.specs.Moment.{moment_of}
use Rattle.rail_codes.specs.declared.code_fault.CodeFault.{CodeFault}
use Rattle.line_fields.specs.declared.fault.FieldFault.{FieldFault}
use Rattle.line_fields.specs.declared.fault.FieldFault.TheVariants.{Code, WrongKind, OutOfRange}

-- goes on with what was read, or keeps the fault
infixl 10 ◌>>=◌
abbrev pub ◌>>=◌ : {A B E : Type 0} → Result A E → (A → Result B E) → Result B E
(Ok x) >>= f = f x
(Err e) >>= f = Err e

-- a text; any other value is of the wrong kind
unfoldable pub text_of : Data → Result (List ℕ) FieldFault
text_of d = ok_or (as_str d) WrongKind

-- true or false; any other value is of the wrong kind
unfoldable pub boolean_of : Data → Result Bool FieldFault
boolean_of d = ok_or (as_bool d) WrongKind

abbrev within : ℕ → ℕ → ℕ → Bool
within low high n = nat_le low n && nat_le n high

-- a whole number from 0 to 2 ^ 64 - 1, within its limits
unfoldable pub number_within : ℕ → ℕ → Data → Result ℕ FieldFault
number_within low high d = do
  n ← ok_or (option_and_then as_u64 (as_number d)) WrongKind
  if within low high n then Ok n else Err OutOfRange

-- ---- codes

-- a code that was read, or its fault as that of the field's value
abbrev pub with_code : {A : Type 0} → Result A CodeFault → Result A FieldFault
with_code (Ok x) = Ok x
with_code (Err e) = Err (Code e)

-- what a text is read as, by the reading of its kind
unfoldable pub code_from : {A : Type 0} → (List ℕ → Result A CodeFault) → Data → Result A FieldFault
code_from read d = text_of d >>= λ text. with_code (read text)

abbrev pub wagon_number_from : Data → Result (List ℕ) FieldFault
wagon_number_from = code_from wagon_number_of

abbrev pub order_id_from : Data → Result (List ℕ) FieldFault
order_id_from = code_from order_id_of

abbrev pub company_from : Data → Result (List ℕ) FieldFault
company_from = code_from company_of

abbrev pub place_from : Data → Result (List ℕ) FieldFault
place_from = code_from place_read

abbrev pub class_from : Data → Result (List ℕ) FieldFault
class_from = code_from class_code_of

abbrev pub moment_from : Data → Result ℕ FieldFault
moment_from = code_from moment_of

-- ---- lists

-- the items of a list; any other value is of the wrong kind
unfoldable pub list_of : Data → Result Items FieldFault
list_of d = ok_or (as_array d) WrongKind

-- a list whose count of items is within its limits
unfoldable pub list_within : ℕ → ℕ → Data → Result Items FieldFault
list_within low high d = do
  items ← list_of d
  if within low high (items_len items) then Ok items else Err OutOfRange

-- each item in turn, up to the first that is refused
unfoldable pub each : {A : Type 0} → (Data → Result A FieldFault) → Items → Result (List A) FieldFault
each read no_items = Ok []
each read (item d ds) = do
  x ← read d
  xs ← each read ds
  Ok (x ∷ xs)

-- a list of any length
unfoldable pub list_of_each : {A : Type 0} → (Data → Result A FieldFault) → Data → Result (List A) FieldFault
list_of_each read d = list_of d >>= each read

-- the two items of a pair; a list of another count is out of range
abbrev pub two_items : {A B : Type 0} → (Data → Result A FieldFault) → (Data → Result B FieldFault) → Items → Result (A × B) FieldFault
two_items first second (item d (item e no_items)) = do
  x ← first d
  y ← second e
  Ok (x, y)
two_items first second no_items = Err OutOfRange
two_items first second (item d no_items) = Err OutOfRange
two_items first second (item d (item e (item f rest))) = Err OutOfRange

-- a wagon and an order
unfoldable pub wagon_and_order : Data → Result (List ℕ × List ℕ) FieldFault
wagon_and_order d = list_of d >>= two_items wagon_number_from order_id_from
