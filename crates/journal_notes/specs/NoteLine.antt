-- A note as a line of JSON: an object with the number of its file, where there is more than one, the number of its line, the word that says its kind, and its members, in this order.
use Rattle.std.specs.Prelude.{◌≡◌, ℕ, List, Option, Some, None, codes}
use Rattle.serde_json.specs.Data.{Data, string, object, Members, no_members, member}
use Rattle.serde_json.specs.Written.{compact_text}
use Rattle.line_fields.specs.Written.{number_data}
use Rattle.rail_codes.specs.Moment.{IsMomentText}
use Rattle.journal_notes.specs.declared.note.HeardMessage.{HeardMessage}
use Rattle.journal_notes.specs.declared.note.EndCause.{EndCause}
use Rattle.journal_notes.specs.declared.note.EndCause.TheVariants.{Held, Elsewhere, Withdrawn}
use Rattle.journal_notes.specs.declared.note.EndedPromise.{EndedPromise}
use Rattle.journal_notes.specs.declared.note.LatestOfOrder.{LatestOfOrder}
use Rattle.journal_notes.specs.declared.note.Note.{Note}
use Rattle.journal_notes.specs.declared.note.Note.TheVariants.{Promised, Complete, Delivered, Filled, Ended, Short, Refused, UnknownPlace, NoClass, NoCarrier, Past, Overdue, Ahead}
use Rattle.journal_notes.specs.declared.note.OverdueOrder.{OverdueOrder}
use Rattle.journal_notes.specs.declared.note.RefusedMessage.{RefusedMessage}
use Rattle.journal_notes.specs.declared.note.WagonForOrder.{WagonForOrder}
use Rattle.journal_notes.specs.StatusNames.{name_word}

-- the word that says what kind a note is of
abbrev pub note_word : Note → List ℕ
note_word (Promised pair) = codes "promised"
note_word (Complete named) = codes "complete"
note_word (Delivered pair) = codes "delivered"
note_word (Filled filled) = codes "filled"
note_word (Ended ended) = codes "ended"
note_word (Short missing) = codes "short"
note_word (Refused message) = codes "refused"
note_word (UnknownPlace order) = codes "place"
note_word (NoClass named) = codes "class"
note_word (NoCarrier order) = codes "load"
note_word (Past order) = codes "past"
note_word (Overdue order) = codes "overdue"
note_word (Ahead message) = codes "ahead"

-- why a promise ended
abbrev pub cause_word : EndCause → List ℕ
cause_word Held = codes "held"
cause_word Elsewhere = codes "elsewhere"
cause_word Withdrawn = codes "withdrawn"

-- ---- members

-- an order, alone
abbrev pub order_members : (order : List ℕ) → Members
order_members order = member (codes "order") (string order) no_members

-- a wagon and its order
abbrev pub pair_members : WagonForOrder → Members
pair_members pair = member (codes "wagon") (string pair.wagon) (order_members pair.order)

-- an order and a number
abbrev pub number_members : (order name : List ℕ) → ℕ → Members
number_members order name number = member (codes "order") (string order) (member name (number_data number) no_members)

-- an order and a text
abbrev pub text_members : (order name text : List ℕ) → Members
text_members order name text = member (codes "order") (string order) (member name (string text) no_members)

-- a promise that ended
abbrev pub ended_members : EndedPromise → Members
ended_members ended =
    member (codes "wagon") (string ended.wagon)
    (member (codes "order") (string ended.order)
    (member (codes "why") (string (cause_word ended.cause)) no_members))

-- a refused message, with the texts of its moments
abbrev pub refused_members : RefusedMessage → (last since : List ℕ) → Members
refused_members message last since =
    member (codes "number") (number_data message.number)
    (member (codes "wagon") (string message.wagon)
    (member (codes "status") (string (name_word message.status))
    (member (codes "place") (string message.place)
    (member (codes "last") (string last)
    (member (codes "times") (number_data message.times)
    (member (codes "since") (string since) no_members))))))

pub record AreRefusedMembers (message : RefusedMessage) (members : Members) : Type 0 where
  pub last : List ℕ
  pub since : List ℕ
  pub last_moment : IsMomentText message.last last
  pub since_moment : IsMomentText message.since since
  pub whole : members ≡ refused_members message last since

-- an order and its latest moment
pub record AreLatestMembers (order : LatestOfOrder) (members : Members) : Type 0 where
  pub latest : List ℕ
  pub moment : IsMomentText order.latest latest
  pub whole : members ≡ text_members order.order (codes "latest") latest

-- an order that is overdue, with the text of its latest moment
abbrev pub overdue_members : OverdueOrder → (latest : List ℕ) → Members
overdue_members order latest =
    member (codes "order") (string order.order)
    (member (codes "latest") (string latest)
    (member (codes "missing") (number_data order.missing)
    (member (codes "promised") (number_data order.promised) no_members)))

pub record AreOverdueMembers (order : OverdueOrder) (members : Members) : Type 0 where
  pub latest : List ℕ
  pub moment : IsMomentText order.latest latest
  pub whole : members ≡ overdue_members order latest

-- a message that is ahead, with the text of its moment
abbrev pub ahead_members : HeardMessage → (moment : List ℕ) → Members
ahead_members message moment =
    member (codes "of") (number_data message.line)
    (member (codes "wagon") (string message.wagon)
    (member (codes "moment") (string moment) no_members))

pub record AreAheadMembers (message : HeardMessage) (members : Members) : Type 0 where
  pub text : List ℕ
  pub moment : IsMomentText message.moment text
  pub whole : members ≡ ahead_members message text

-- the members of a note behind its word; a moment stands as YYYY-MM-DDThh:mm:ssZ
abbrev pub AreMembers : Note → Members → Type 0
AreMembers (Promised pair) members = members ≡ pair_members pair
AreMembers (Complete named) members = members ≡ order_members named.order
AreMembers (Delivered pair) members = members ≡ pair_members pair
AreMembers (Filled filled) members = members ≡ number_members filled.order (codes "late") filled.late
AreMembers (Ended ended) members = members ≡ ended_members ended
AreMembers (Short missing) members = members ≡ number_members missing.order (codes "missing") missing.missing
AreMembers (Refused message) members = AreRefusedMembers message members
AreMembers (UnknownPlace order) members = members ≡ text_members order.order (codes "place") order.place
AreMembers (NoClass named) members = members ≡ order_members named.order
AreMembers (NoCarrier order) members = members ≡ number_members order.order (codes "load") order.load
AreMembers (Past order) members = AreLatestMembers order members
AreMembers (Overdue order) members = AreOverdueMembers order members
AreMembers (Ahead message) members = AreAheadMembers message members

-- ---- lines

-- the number of a file before the other members, where there is one
abbrev pub with_file : (file : Option ℕ) → Members → Members
with_file None members = members
with_file (Some number) members = member (codes "file") (number_data number) members

abbrev pub note_data : (file : Option ℕ) → (line : ℕ) → (word : List ℕ) → Members → Data
note_data file line word members = object (with_file file (member (codes "line") (number_data line) (member (codes "note") (string word) members)))

-- an object of JSON with no space in it, without its line feed
abbrev pub object_text : (file : Option ℕ) → (line : ℕ) → (word : List ℕ) → Members → List ℕ
object_text file line word members = compact_text (note_data file line word members)

-- the text of a note at the line of this number, of this file where there is more than one, without its line feed
pub record IsNoteText (file : Option ℕ) (line : ℕ) (note : Note) (text : List ℕ) : Type 0 where
  pub members : Members
  pub of_note : AreMembers note members
  pub whole : text ≡ object_text file line (note_word note) members
