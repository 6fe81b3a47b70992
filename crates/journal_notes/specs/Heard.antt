-- The last two messages of a journal, and the note of one that is ahead of those around it. The messages of a journal are the lines
-- that are read as one, whatever they are answered.
use Rattle.std.specs.Prelude.{ℕ, ◌+◌, Bool, ◌&&◌, nat_le, List, [], Option, Some, None}
use Rattle.move_messages.specs.declared.event.Event.{Event}
use Rattle.move_messages.specs.declared.event.Event.TheVariants as event
use Rattle.move_messages.specs.declared.message.Message as movement
use Rattle.journal_notes.specs.NoteLists.{noted}
use Rattle.journal_notes.specs.declared.heard.Heard.{Heard}
use Rattle.journal_notes.specs.declared.note.HeardMessage.{HeardMessage}
use Rattle.journal_notes.specs.declared.note.Note.{Note}
use Rattle.journal_notes.specs.declared.note.Note.TheVariants.{Ahead}

-- a day in seconds
abbrev pub day : ℕ
day = 86_400

-- a moment that is a day or more ahead of both the one before it and the one after it
abbrev pub is_ahead : (before this after : ℕ) → Bool
is_ahead before this after = nat_le (before + day) this && nat_le (after + day) this

-- before the first message
abbrev pub nothing_heard : Heard
nothing_heard = record { last = None; before_last = None }

-- the message of a line
abbrev pub heard_at : (line : ℕ) → movement.Message → HeardMessage
heard_at line message = record { line = line; wagon = message.wagon; moment = message.moment }

-- the last two messages behind a line with this event
abbrev pub heard_by_event : (line : ℕ) → Heard → Event → Heard
heard_by_event line heard (event.Message message) = record { last = Some (heard_at line message); before_last = heard.last }
heard_by_event line heard (event.Place order) = heard
heard_by_event line heard (event.Withdraw id) = heard
heard_by_event line heard (event.Commit commit) = heard
heard_by_event line heard (event.Revise network) = heard

abbrev pub ahead_between : (before this : Option HeardMessage) → (after : ℕ) → List Note
ahead_between (Some before) (Some this) after = noted (is_ahead before.moment this.moment after) (Ahead this)
ahead_between (Some before) None after = []
ahead_between None this after = []

-- the note, at a message of this moment, that the message before it is ahead of the one before that and of this one
abbrev pub ahead_notes : Heard → (after : ℕ) → List Note
ahead_notes heard after = ahead_between heard.before_last heard.last after
