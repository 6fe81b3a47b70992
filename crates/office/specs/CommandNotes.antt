-- The notes of a line that is a command, and of a line whatever it is.
use Rattle.std.specs.Prelude.{◌≡◌, ℕ, List, [], ◌++◌, Result, Ok, Err}
use Rattle.line_fields.specs.Commands.{command_of}
use Rattle.line_fields.specs.Line.{object_of}
use Rattle.line_fields.specs.declared.fault.LineFault.{LineFault}
use Rattle.line_fields.specs.declared.command.Command.{Command}
use Rattle.line_fields.specs.declared.command.Command.TheVariants as command
use Rattle.move_messages.specs.declared.event.Event.{Event}
use Rattle.move_messages.specs.declared.event.Event.TheVariants as event
use Rattle.serde_json.specs.Data.{Data}
use Rattle.wagons_and_orders.specs.declared.wagon_row.WagonRow.{WagonRow}
use Rattle.line_network.specs.Network.{NetworkValue}
use Rattle.place_names.specs.declared.named_place.NamedPlace.{NamedPlace}
use Rattle.office.specs.OrderNotes.{AreOrderNotes}
use Rattle.office.specs.MemberNotes.{fields_of, member_notes}
use Rattle.office.specs.AheadNotes.{AheadNotes}
use Rattle.office.specs.LineNotes.{mark_note, open_note}
use Rattle.journal_notes.specs.declared.heard.Heard.{Heard}

-- What is known before a line: the networks, the names of places, the wagons of the office, and the last two messages.
pub record KnownBefore : Type 0 where
  pub networks : List NetworkValue
  pub named : List NamedPlace
  pub wagons : List WagonRow
  pub heard : Heard

abbrev pub EventOrderNotes : (line : ℕ) → KnownBefore → Event → List ℕ → Type 0
EventOrderNotes line known (event.Place order) text = AreOrderNotes line known.networks known.named known.wagons order text
EventOrderNotes line known (event.Message message) text = text ≡ []
EventOrderNotes line known (event.Withdraw id) text = text ≡ []
EventOrderNotes line known (event.Commit commit) text = text ≡ []
EventOrderNotes line known (event.Revise network) text = text ≡ []

abbrev pub EventAheadNotes : (line : ℕ) → Heard → Event → List ℕ → Type 0
EventAheadNotes line heard (event.Message message) text = AheadNotes line heard message.moment text
EventAheadNotes line heard (event.Place order) text = text ≡ []
EventAheadNotes line heard (event.Withdraw id) text = text ≡ []
EventAheadNotes line heard (event.Commit commit) text = text ≡ []
EventAheadNotes line heard (event.Revise network) text = text ≡ []

-- the notes of an order
abbrev pub OrderNotesOf : (line : ℕ) → KnownBefore → Command → List ℕ → Type 0
OrderNotesOf line known (command.Event happens) text = EventOrderNotes line known happens text
OrderNotesOf line known (command.Begin at) text = text ≡ []
OrderNotesOf line known (command.Plan at) text = text ≡ []
OrderNotesOf line known command.Sheet text = text ≡ []

-- the note at a message
abbrev pub AheadNotesOf : (line : ℕ) → Heard → Command → List ℕ → Type 0
AheadNotesOf line heard (command.Event happens) text = EventAheadNotes line heard happens text
AheadNotesOf line heard (command.Begin at) text = text ≡ []
AheadNotesOf line heard (command.Plan at) text = text ≡ []
AheadNotesOf line heard command.Sheet text = text ≡ []

-- The notes of a line that is read as a command: of an order, of members, of the message before.
pub record AreCommandNotes (line : ℕ) (known : KnownBefore) (asked : Command) (object : Result Data LineFault) (text : List ℕ) : Type 0 where
  pub order : List ℕ
  pub order_notes : OrderNotesOf line known asked order
  pub ahead : List ℕ
  pub ahead_notes : AheadNotesOf line known.heard asked ahead
  pub whole : text ≡ order ++ member_notes line (fields_of asked) object ++ ahead

-- the same of what was read; a line that is no command has none
abbrev pub ReadNotes : (line : ℕ) → KnownBefore → Result Command LineFault → Result Data LineFault → List ℕ → Type 0
ReadNotes line known (Ok asked) object text = AreCommandNotes line known asked object text
ReadNotes line known (Err fault) object text = text ≡ []

-- The notes of a line's bytes, by what they are read as.
pub record AreLineNotes (line : ℕ) (known : KnownBefore) (bytes : List ℕ) (text : List ℕ) : Type 0 where
  pub command : List ℕ
  pub command_notes : ReadNotes line known (command_of bytes) (object_of bytes) command
  pub whole : text ≡ command ++ mark_note line bytes ++ open_note line bytes (command_of bytes)
