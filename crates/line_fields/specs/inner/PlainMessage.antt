-- A message whose fields stand in the order of the manual, with no space between them: its text, and the object that it spells.
use Rattle.std.specs.Prelude.{◌≡◌, ℕ, List, codes, decimal, Ok}
use Rattle.json.specs.Json as json
use Rattle.serde_json.specs.Data.{Data, unsigned, number, string, object, no_members, member}
use Rattle.line_fields.specs.Values.{◌>>=◌}
use Rattle.line_fields.specs.Line.{object_of}
use Rattle.line_fields.specs.Commands.{command_of, command_of_type, message_of}
use Rattle.move_messages.specs.declared.message.Message as movement
use Rattle.line_fields.specs.LineType.{line_type_of}
use Rattle.line_fields.specs.declared.command.Command.TheVariants.{Event}
use Rattle.move_messages.specs.declared.event.Event.TheVariants.{Message}
use Rattle.line_fields.specs.declared.line_type.LineType.{LineType}
use Rattle.move_messages.specs.declared.message.MessageKind.{MessageKind}
use Rattle.line_fields.specs.declared.plain_message.PlainMessage.{PlainMessage}

-- the value that its text spells, its members in the order of the text
abbrev pub plain_json : PlainMessage → json.Json
plain_json m =
    json.object (json.member (codes "type") (json.string m.type_name.now) (json.member (codes "company") (json.string m.company.now)
    (json.member (codes "number") (json.number (decimal m.number)) (json.member (codes "wagon") (json.string m.wagon.now)
    (json.member (codes "place") (json.string m.place.now) (json.member (codes "moment") (json.string m.moment.now) json.no_members))))))

-- the object, its members in the order of their names
abbrev pub plain_object : PlainMessage → Data
plain_object m =
    object (member (codes "company") (string m.company.now) (member (codes "moment") (string m.moment.now)
    (member (codes "number") (number (unsigned m.number)) (member (codes "place") (string m.place.now)
    (member (codes "type") (string m.type_name.now) (member (codes "wagon") (string m.wagon.now) no_members))))))

-- lines of this type are messages of this kind
abbrev pub IsKindOf : LineType → MessageKind → Type 0
IsKindOf line_type kind = (d : Data) → command_of_type line_type d ≡ (message_of kind d >>= λ message. Ok (Event (Message message)))

-- and so are lines of the type of that name
abbrev pub IsTypeOf : List ℕ → MessageKind → Type 0
IsTypeOf name kind = (line_type : LineType) × (line_type_of name ≡ Ok line_type) × IsKindOf line_type kind

-- a line whose object has these fields is read as this message
abbrev pub IsReadAs : PlainMessage → movement.Message → Type 0
IsReadAs fields message = (line : List ℕ) → object_of line ≡ Ok (plain_object fields) → command_of line ≡ Ok (Event (Message message))
