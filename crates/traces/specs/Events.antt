-- What a step keeps of its event, and in which words a line says it.
use Rattle.std.specs.Prelude.{◌≡◌, ℕ, List, Option, Some, None, Result, Ok, codes}
use Rattle.line_fields.specs.Commands.{command_of_type, exception_of, message_of}
use Rattle.line_fields.specs.LineType.{line_type_of}
use Rattle.line_fields.specs.Values.{◌>>=◌}
use Rattle.line_fields.specs.declared.command.Command.{Command}
use Rattle.line_fields.specs.declared.command.Command.TheVariants as command
use Rattle.line_fields.specs.declared.fault.LineFault.{LineFault}
use Rattle.serde_json.specs.Data.{Data}
use Rattle.move_messages.specs.declared.message.Message as movement
use Rattle.move_messages.specs.declared.event.Event.{Event}
use Rattle.move_messages.specs.declared.event.Event.TheVariants as event
use Rattle.move_messages.specs.declared.message.MessageKind.{MessageKind}
use Rattle.move_messages.specs.declared.message.MessageKind.TheVariants as kind
use Rattle.traces.specs.declared.event_brief.EventBrief.{EventBrief}
use Rattle.traces.specs.declared.event_brief.EventBrief.TheVariants.{Message, Place, Withdraw, Commit, Revise}

-- a message whole; of a commit, which problem it names
abbrev pub brief_of : Event → EventBrief
brief_of (event.Message message) = Message message
brief_of (event.Place text) = Place
brief_of (event.Withdraw id) = Withdraw
brief_of (event.Commit commit) = Commit (record { version = commit.version; at = commit.at })
brief_of (event.Revise network) = Revise

-- ---- words

-- the type of a line with a message of this kind
abbrev pub kind_word : MessageKind → List ℕ
kind_word kind.Release = codes "release"
kind_word kind.Departure = codes "departure"
kind_word kind.YardArrival = codes "yard_arrival"
kind_word kind.YardDeparture = codes "yard_departure"
kind_word (kind.Exception hold) = codes "exception"
kind_word kind.Arrival = codes "arrival"
kind_word kind.Delivery = codes "delivery"

-- the type of a line with this event
abbrev pub event_word : EventBrief → List ℕ
event_word (Message message) = kind_word message.kind
event_word Place = codes "order"
event_word Withdraw = codes "withdraw"
event_word (Commit commit) = codes "commit"
event_word Revise = codes "network"

-- what a line's fields are read as, where its type is this word
abbrev pub read_by_word : (word : List ℕ) → Data → Result Command LineFault
read_by_word word d = line_type_of word >>= λ line_type. command_of_type line_type d

-- a message of this kind
abbrev pub message_by_kind : MessageKind → Data → Result movement.Message LineFault
message_by_kind kind.Release d = message_of kind.Release d
message_by_kind kind.Departure d = message_of kind.Departure d
message_by_kind kind.YardArrival d = message_of kind.YardArrival d
message_by_kind kind.YardDeparture d = message_of kind.YardDeparture d
message_by_kind (kind.Exception hold) d = exception_of d
message_by_kind kind.Arrival d = message_of kind.Arrival d
message_by_kind kind.Delivery d = message_of kind.Delivery d

-- a line whose type is this word is read as a message of this kind
abbrev pub IsWordOfKind : MessageKind → (word : List ℕ) → Type 0
IsWordOfKind kind word = (d : Data) → read_by_word word d ≡ (message_by_kind kind d >>= λ message. Ok (command.Event (event.Message message)))

-- ---- what the event says

-- the company that sent a message
abbrev pub company_of : EventBrief → Option (List ℕ)
company_of (Message message) = Some message.id.company
company_of Place = None
company_of Withdraw = None
company_of (Commit commit) = None
company_of Revise = None

-- the moment of a message, or that of the problem that a commit names
abbrev pub moment_of : EventBrief → Option ℕ
moment_of (Message message) = Some message.moment
moment_of Place = None
moment_of Withdraw = None
moment_of (Commit commit) = Some commit.at
moment_of Revise = None

-- the version that a commit names
abbrev pub version_of : EventBrief → Option ℕ
version_of (Message message) = None
version_of Place = None
version_of Withdraw = None
version_of (Commit commit) = Some commit.version
version_of Revise = None

-- the wagon of a message
abbrev pub wagon_of : EventBrief → Option (List ℕ)
wagon_of (Message message) = Some message.wagon
wagon_of Place = None
wagon_of Withdraw = None
wagon_of (Commit commit) = None
wagon_of Revise = None
