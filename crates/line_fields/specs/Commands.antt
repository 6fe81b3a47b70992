-- What a line is as a command: its type, and the fields of that type in the order in which they are tried.
use Rattle.std.specs.Prelude.{ℕ, ◌^◌, ◌-◌, false, List, unwrap_or, Result, Ok}
use Rattle.serde_json.specs.Data.{Data}
use Rattle.line_fields.specs.declared.field.Field.TheVariants as field
use Rattle.line_fields.specs.declared.fault.FieldFault.{FieldFault}
use Rattle.line_fields.specs.declared.fault.LineFault.{LineFault}
use Rattle.line_fields.specs.declared.line_type.LineType.{LineType}
use Rattle.line_fields.specs.declared.line_type.LineType.TheVariants as of_type
use Rattle.move_messages.specs.declared.message.MessageKind.{MessageKind}
use Rattle.move_messages.specs.declared.message.MessageKind.TheVariants.{Release, Departure, YardArrival, YardDeparture, Exception, Arrival, Delivery}
use Rattle.move_messages.specs.declared.message.Message as message
use Rattle.move_messages.specs.declared.commit_text.CommitText.{CommitText}
use Rattle.line_fields.specs.declared.command.Command.{Command}
use Rattle.line_fields.specs.declared.command.Command.TheVariants.{Event, Begin, Plan, Sheet}
use Rattle.move_messages.specs.declared.event.Event.TheVariants.{Message, Place, Withdraw, Commit, Revise}
use Rattle.move_messages.specs.Classes.{max_classes}
use Rattle.move_messages.specs.Order.{Order}
use Rattle.move_messages.specs.OrderLimits.{max_penalty, max_order_wagons}
use Rattle.move_messages.specs.MaxLoad.{max_load}
use Rattle.line_fields.specs.Values.{◌>>=◌, number_within, boolean_of, company_from, wagon_number_from, place_from, moment_from, order_id_from, class_from, list_within, each, text_of, wagon_and_order}
use Rattle.line_fields.specs.Fields.{field_of, optional_field_of, list_at}
use Rattle.line_fields.specs.Line.{object_of}
use Rattle.line_fields.specs.LineType.{line_type_of}

-- the greatest version that a commit may name
abbrev pub max_version : ℕ
max_version = 1_000_000

-- the highest number of a network that a line may name; networks are numbered from 1
abbrev pub max_revision : ℕ
max_revision = 8

-- a movement message
unfoldable pub message_of : MessageKind → Data → Result message.Message LineFault
message_of kind d = do
  company ← field_of company_from field.Company d
  number ← field_of (number_within 0 (2 ^ 32 - 1)) field.Number d
  wagon ← field_of wagon_number_from field.Wagon d
  place ← field_of place_from field.Place d
  moment ← field_of moment_from field.Moment d
  Ok (record { id = record { company = company; number = number }; kind = kind; wagon = wagon; place = place; moment = moment })

-- the same fields, then hold
unfoldable pub exception_of : Data → Result message.Message LineFault
exception_of d = do
  message ← message_of (Exception false) d
  hold ← field_of boolean_of field.Hold d
  Ok (record message { kind = Exception hold })

-- 1 to 8 classes
unfoldable pub classes_from : Data → Result (List (List ℕ)) FieldFault
classes_from d = list_within 1 max_classes d >>= each class_from

-- an order; where `wagons` is missing it wants one
unfoldable pub order_text_of : Data → Result Order LineFault
order_text_of d = do
  id ← field_of order_id_from field.Order d
  place ← field_of place_from field.Place d
  classes ← field_of classes_from field.Classes d
  load ← field_of (number_within 0 max_load) field.Load d
  latest ← field_of moment_from field.Latest d
  penalty ← field_of (number_within 0 max_penalty) field.Penalty d
  wagons ← optional_field_of (number_within 1 max_order_wagons) field.Wagons d
  Ok (record { id = id; place = place; classes = classes; load = load; latest = latest; penalty = penalty; wagons = unwrap_or wagons 1 })

-- a plan that is to be promised
unfoldable pub commit_text_of : Data → Result CommitText LineFault
commit_text_of d = do
  version ← field_of (number_within 0 max_version) field.Version d
  at ← field_of moment_from field.At d
  pairs ← list_at wagon_and_order field.Pairs d
  u ← list_at (number_within 0 (2 ^ 64 - 1)) field.WagonPrices d
  v ← list_at (number_within 0 (2 ^ 64 - 1)) field.OrderPrices d
  Ok (record { version = version; at = at; pairs = pairs; u = u; v = v })

-- the command of each type
unfoldable pub command_of_type : LineType → Data → Result Command LineFault
command_of_type of_type.Release d = message_of Release d >>= λ message. Ok (Event (Message message))
command_of_type of_type.Departure d = message_of Departure d >>= λ message. Ok (Event (Message message))
command_of_type of_type.YardArrival d = message_of YardArrival d >>= λ message. Ok (Event (Message message))
command_of_type of_type.YardDeparture d = message_of YardDeparture d >>= λ message. Ok (Event (Message message))
command_of_type of_type.Exception d = exception_of d >>= λ message. Ok (Event (Message message))
command_of_type of_type.Arrival d = message_of Arrival d >>= λ message. Ok (Event (Message message))
command_of_type of_type.Delivery d = message_of Delivery d >>= λ message. Ok (Event (Message message))
command_of_type of_type.Order d = order_text_of d >>= λ order. Ok (Event (Place order))
command_of_type of_type.Withdraw d = field_of order_id_from field.Order d >>= λ id. Ok (Event (Withdraw id))
command_of_type of_type.Begin d = field_of moment_from field.At d >>= λ at. Ok (Begin at)
command_of_type of_type.Plan d = field_of moment_from field.At d >>= λ at. Ok (Plan at)
command_of_type of_type.Commit d = commit_text_of d >>= λ commit. Ok (Event (Commit commit))
command_of_type of_type.Sheet d = Ok Sheet
command_of_type of_type.Network d = field_of (number_within 1 max_revision) field.Revision d >>= λ k. Ok (Event (Revise k))

-- the command that a line is, or its first fault
unfoldable pub command_of : List ℕ → Result Command LineFault
command_of bytes = do
  d ← object_of bytes
  name ← field_of text_of field.TypeName d
  line_type ← line_type_of name
  command_of_type line_type d
