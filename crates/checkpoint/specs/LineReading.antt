-- What a line of a checkpoint is read as: by its type, its fields in the order in which they are tried.
use Rattle.std.specs.Prelude.{ℕ, List, Option, Some, None, unwrap_or, if◌then◌else◌, codes, Result, Ok, Err}
use Rattle.std.specs.Option.{ok_or}
use Rattle.serde_json.specs.Data.{Data}
use Rattle.line_fields.specs.declared.field.Field.TheVariants as field
use Rattle.line_fields.specs.declared.fault.FieldFault.TheVariants.{OutOfRange}
use Rattle.line_fields.specs.declared.fault.LineFault.{LineFault}
use Rattle.line_fields.specs.declared.fault.LineFault.TheVariants.{UnknownType, BadField}
use Rattle.line_fields.specs.Commands.{max_revision, order_text_of}
use Rattle.line_fields.specs.Fields.{field_of, list_at, optional_field_of}
use Rattle.line_fields.specs.Line.{object_of}
use Rattle.move_messages.specs.MaxLoad.{max_load}
use Rattle.line_fields.specs.Values.{◌>>=◌, boolean_of, class_from, moment_from, number_within, order_id_from, place_from, text_of, wagon_number_from}
use Rattle.wagons_and_orders.specs.declared.status.Status.{Status}
use Rattle.wagons_and_orders.specs.declared.wagon_row.WagonRow.{WagonRow}
use Rattle.wagons_and_orders.specs.StatusWords.{is_word, status_of_word}
use Rattle.checkpoint.specs.declared.line.CheckpointLine.{CheckpointLine}
use Rattle.checkpoint.specs.declared.line.CheckpointLine.TheVariants.{Head, Wagon, Order, End}
use Rattle.checkpoint.specs.Limits.{line_format, max_lines}
use Rattle.checkpoint.specs.OrderLine.{OrderLineValue}

-- the number of the network in force, behind that of the format
unfoldable pub head_of : Data → Result ℕ LineFault
head_of d = do
  format ← field_of (number_within line_format line_format) field.Format d
  field_of (number_within 1 max_revision) field.Network d

-- since when a wagon has been ready: only where its status is `empty`, and there it must say so
unfoldable pub ready_of : (word : List ℕ) → Data → Result (Option ℕ) LineFault
ready_of word d = if is_word (codes "empty") word then (field_of moment_from field.Ready d >>= λ ready. Ok (Some ready)) else Ok None

-- a status that is known; another word is out of range
abbrev pub known_status : Option Status → Result Status LineFault
known_status status = ok_or status (BadField field.Status OutOfRange)

-- a wagon; which status the word says is looked at last. Without a `ready` the last moment stands in, and no status keeps it.
unfoldable pub wagon_row_of : Data → Result WagonRow LineFault
wagon_row_of d = do
  number ← field_of wagon_number_from field.Wagon d
  class ← field_of class_from field.Class d
  load ← field_of (number_within 0 max_load) field.Load d
  word ← field_of text_of field.Status d
  place ← field_of place_from field.Place d
  ready ← ready_of word d
  last ← field_of moment_from field.Last d
  held ← field_of boolean_of field.Held d
  promise ← optional_field_of order_id_from field.Promise d
  status ← known_status (status_of_word word place (unwrap_or ready last))
  Ok (record { number = number; class = class; load_limit = load; status = status; held = held; last = last; promise = promise })

-- an order as placed, then the wagons promised to it and those that filled it
unfoldable pub order_line_of : Data → Result OrderLineValue LineFault
order_line_of d = do
  text ← order_text_of d
  promised ← list_at wagon_number_from field.Promised d
  filled ← list_at wagon_number_from field.Filled d
  Ok (record { text = text; promised = promised; filled = filled })

-- how many other lines there are
unfoldable pub end_of : Data → Result ℕ LineFault
end_of d = field_of (number_within 0 max_lines) field.Lines d

-- the line of each type, by its name
unfoldable pub line_of_type : (name : List ℕ) → Data → Result CheckpointLine LineFault
line_of_type name d =
    if is_word (codes "checkpoint") name then (head_of d >>= λ network. Ok (Head network))
    else if is_word (codes "wagon") name then (wagon_row_of d >>= λ row. Ok (Wagon row))
    else if is_word (codes "order") name then (order_line_of d >>= λ line. Ok (Order line))
    else if is_word (codes "end") name then (end_of d >>= λ lines. Ok (End lines))
    else Err UnknownType

-- the line that some bytes are, or the first fault
unfoldable pub checkpoint_line_of : List ℕ → Result CheckpointLine LineFault
checkpoint_line_of bytes = do
  d ← object_of bytes
  name ← field_of text_of field.TypeName d
  line_of_type name d
