-- What is noted of the members of a line that a command doesn't have.
use Rattle.std.specs.Prelude.{ℕ, Bool, not, nat_eq, nat_le, ◌&&◌, ◌||◌, ◌==◌, if◌then◌else◌, List, [], ◌∷◌, ◌++◌, map, take, codes, Result, Ok, Err}
use Rattle.std.specs.List.{flat_map, list_any}
use Rattle.std.specs.Cmp.Lexicographic.{pointwise}
use Rattle.serde_json.specs.Data.{Data, null, boolean, number, string, array, object, Members, no_members, member}
use Rattle.line_fields.specs.Field.{field_name}
use Rattle.line_fields.specs.declared.field.Field.{Field}
use Rattle.line_fields.specs.declared.field.Field.TheVariants as field
use Rattle.line_fields.specs.declared.fault.LineFault.{LineFault}
use Rattle.line_fields.specs.declared.command.Command.{Command}
use Rattle.line_fields.specs.declared.command.Command.TheVariants as command
use Rattle.move_messages.specs.declared.event.Event.{Event}
use Rattle.move_messages.specs.declared.event.Event.TheVariants as event
use Rattle.move_messages.specs.declared.message.MessageKind.{MessageKind}
use Rattle.move_messages.specs.declared.message.MessageKind.TheVariants.{Release, Departure, YardArrival, YardDeparture, Exception, Arrival, Delivery}
use Rattle.reply_texts.specs.Words.{next_word}
use Rattle.office.specs.NoteText.{note, noted}

-- ---- what a command has

abbrev pub message_fields : List Field
message_fields = field.TypeName ∷ field.Company ∷ field.Number ∷ field.Wagon ∷ field.Place ∷ field.Moment ∷ []

abbrev pub exception_fields : List Field
exception_fields = field.TypeName ∷ field.Company ∷ field.Number ∷ field.Wagon ∷ field.Place ∷ field.Moment ∷ field.Hold ∷ []

abbrev pub order_fields : List Field
order_fields = field.TypeName ∷ field.Order ∷ field.Place ∷ field.Classes ∷ field.Load ∷ field.Latest ∷ field.Penalty ∷ field.Wagons ∷ []

abbrev pub withdraw_fields : List Field
withdraw_fields = field.TypeName ∷ field.Order ∷ []

abbrev pub commit_fields : List Field
commit_fields = field.TypeName ∷ field.Version ∷ field.At ∷ field.Pairs ∷ field.WagonPrices ∷ field.OrderPrices ∷ []

abbrev pub network_fields : List Field
network_fields = field.TypeName ∷ field.Revision ∷ []

abbrev pub moment_fields : List Field
moment_fields = field.TypeName ∷ field.At ∷ []

abbrev pub sheet_fields : List Field
sheet_fields = field.TypeName ∷ []

abbrev pub fields_of_kind : MessageKind → List Field
fields_of_kind (Exception hold) = exception_fields
fields_of_kind Release = message_fields
fields_of_kind Departure = message_fields
fields_of_kind YardArrival = message_fields
fields_of_kind YardDeparture = message_fields
fields_of_kind Arrival = message_fields
fields_of_kind Delivery = message_fields

abbrev pub fields_of_event : Event → List Field
fields_of_event (event.Message message) = fields_of_kind message.kind
fields_of_event (event.Place order) = order_fields
fields_of_event (event.Withdraw id) = withdraw_fields
fields_of_event (event.Commit commit) = commit_fields
fields_of_event (event.Revise network) = network_fields

-- the fields of a command's line
abbrev pub fields_of : Command → List Field
fields_of (command.Event happens) = fields_of_event happens
fields_of (command.Begin at) = moment_fields
fields_of (command.Plan at) = moment_fields
fields_of command.Sheet = sheet_fields

-- whether one of the fields has this name
abbrev pub is_known : List Field → (name : List ℕ) → Bool
is_known fields name = list_any (λ field. pointwise nat_eq (field_name field) name) fields

-- ---- what a line has

abbrev pub member_names : Members → List (List ℕ)
member_names no_members = []
member_names (member name value rest) = name ∷ member_names rest

-- the names of an object's members, ascending, each once
abbrev pub names_of : Data → List (List ℕ)
names_of (object members) = member_names members
names_of null = []
names_of (boolean b) = []
names_of (number n) = []
names_of (string s) = []
names_of (array items) = []

-- ---- the notes

-- a character as it is shown: printable ASCII but for the quotation mark and the backslash as it is, any other byte as ?
abbrev pub shown_byte : ℕ → ℕ
shown_byte c = if nat_le 32 c && nat_le c 126 && not (c == 34 || c == 92) then c else 63

-- the most bytes of a name that are shown
abbrev pub max_shown : ℕ
max_shown = 60

-- a name that a sender chose, as it is shown
abbrev pub shown_name : List ℕ → List ℕ
shown_name name = 34 ∷ map shown_byte (take max_shown name) ++ 34 ∷ []

-- the note of a member of this name, where none of the fields has it
abbrev pub member_note : (line : ℕ) → List Field → (name : List ℕ) → List ℕ
member_note line fields name = noted (not (is_known fields name)) (note line (codes "member") (next_word (shown_name name)))

-- the notes of members of these names
abbrev pub notes_of_members : (line : ℕ) → List Field → (names : List (List ℕ)) → List ℕ
notes_of_members line fields names = flat_map (member_note line fields) names

-- the notes of the members of a line's object
abbrev pub member_notes : (line : ℕ) → List Field → Result Data LineFault → List ℕ
member_notes line fields (Ok d) = notes_of_members line fields (names_of d)
member_notes line fields (Err fault) = []
