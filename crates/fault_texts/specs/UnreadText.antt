-- What is said of a file of which a line can't be read as any line of a checkpoint.
use Rattle.std.specs.Prelude.{ℕ, Bool, true, false, if◌then◌else◌, List, ◌++◌, codes}
use Rattle.fleet_rows.specs.declared.roster_field.RosterField.TheVariants as roster
use Rattle.line_fields.specs.Field.{field_name}
use Rattle.line_fields.specs.declared.fault.FieldFault.{FieldFault}
use Rattle.line_fields.specs.declared.fault.FieldFault.TheVariants.{Code, WrongKind, OutOfRange}
use Rattle.line_fields.specs.declared.fault.LineFault.{LineFault}
use Rattle.line_fields.specs.declared.fault.LineFault.TheVariants.{OutOfMemory, NotJson, NotAnObject, UnknownType, MissingField, BadField}
use Rattle.line_fields.specs.declared.field.Field.{Field}
use Rattle.line_fields.specs.declared.field.Field.TheVariants.{TypeName, Wagon, Place, Order, Classes, Load, Latest, Penalty, Wagons, Format, Network, Class, Status, Ready, Last, Held, Promise, Promised, Filled, Lines}
use Rattle.fault_texts.specs.RosterText.{complaint}
use Rattle.fault_texts.specs.Where.{at_line}

-- whether a member of a checkpoint's line is a text
abbrev pub is_text : Field → Bool
is_text TypeName = true
is_text Wagon = true
is_text Class = true
is_text Status = true
is_text Place = true
is_text Ready = true
is_text Last = true
is_text Promise = true
is_text Order = true
is_text Latest = true
is_text field = false

-- what the value of a member isn't; the lines of a checkpoint have no other members
abbrev pub member_complaint : Field → List ℕ
member_complaint TypeName = codes " is none of checkpoint, wagon, order and end"
member_complaint Format = codes " isn't 1, the only format that there is"
member_complaint Network = codes " is no whole number from 1 to 8"
member_complaint Wagon = complaint roster.Wagon
member_complaint Class = complaint roster.Class
member_complaint Load = complaint roster.Load
member_complaint Status = complaint roster.Status
member_complaint Place = complaint roster.Place
member_complaint Ready = complaint roster.Moment
member_complaint Last = complaint roster.Moment
member_complaint Held = codes " is neither true nor false"
member_complaint Promise = codes " is no order's name: 1 to 16 characters A-Z, 0-9 and hyphen"
member_complaint Order = codes " is no order's name: 1 to 16 characters A-Z, 0-9 and hyphen"
member_complaint Classes = codes " is no list of 1 to 8 classes, each of 1 to 12 letters A-Z and a-z"
member_complaint Latest = complaint roster.Moment
member_complaint Penalty = codes " is no whole number of km from 0 to 1,000,000,000"
member_complaint Wagons = codes " is no whole number from 1 to 20"
member_complaint Promised = codes " is no list of wagon numbers, each of twelve digits with its check digit"
member_complaint Filled = codes " is no list of wagon numbers, each of twelve digits with its check digit"
member_complaint Lines = codes " is no whole number from 0 to 1,000,000"
member_complaint field = codes " isn't as wagons save prints it"

-- what a wrong value isn't: no text, where one must stand, or not as its rule asks
abbrev pub value_complaint : Field → FieldFault → List ℕ
value_complaint field (Code fault) = member_complaint field
value_complaint field WrongKind = if is_text field then codes " is no text in quotation marks" else member_complaint field
value_complaint field OutOfRange = member_complaint field

abbrev pub at_member : (path : List ℕ) → (number : ℕ) → Field → List ℕ
at_member path number field = at_line path number ++ codes ": member \"" ++ field_name field ++ codes "\""

-- the line, and what it isn't, or its first member that is missing or wrong, with what was expected
abbrev pub unread_text : (path : List ℕ) → (number : ℕ) → LineFault → List ℕ
unread_text path number OutOfMemory = codes "out of memory"
unread_text path number NotJson = at_line path number ++ codes ": it is no JSON; each line must be a JSON object, as wagons save prints them"
unread_text path number NotAnObject = at_line path number ++ codes ": it is JSON, but no object; each line must be a JSON object, as wagons save prints them"
unread_text path number UnknownType = at_member path number TypeName ++ member_complaint TypeName
unread_text path number (MissingField field) = at_member path number field ++ codes " is missing"
unread_text path number (BadField field fault) = at_member path number field ++ value_complaint field fault
